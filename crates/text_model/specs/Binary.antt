-- The binary form of scripts: a mark, a record for each item that is not blank, and the end record. A record is a tag of one byte, and numbers behind it.
use Rattle.std.specs.Prelude.{ℕ, zero, suc, ◌+◌, ◌/◌, ◌%◌, nat_lt, Bool, true, false, if◌then◌else◌, List, [], ◌∷◌, ◌++◌, take, bytes_eq}
use Rattle.type_table.specs.declared.info.Shape.{Shape}
use Rattle.type_table.specs.declared.info.Shape.TheVariants.{Fixed, IntArray, RefArray, Weak}
use Rattle.text_model.specs.declared.command.Command.{Command}
use Rattle.text_model.specs.declared.command.Command.TheVariants.{NewFixed, NewArray, NewWeak, Put, Get, Link, Load, CopyRefs, MoveRoot, DropRoot, Same, Ident, Hash, Place, Pin, Unpin, Deref, Register, NextFinal, MakeLink, Inc, Dec, Count, FromObj, ToObj, NextDead, Minor, Step, Collect, Used}
use Rattle.text_model.specs.declared.item.Item.{Item}
use Rattle.text_model.specs.declared.item.Item.TheVariants.{Blank, Setting, TypeDef, Command as CommandItem}

-- the bytes with which a binary script begins
abbrev pub binary_mark : List ℕ
binary_mark = 80 ∷ 71 ∷ 72 ∷ 50 ∷ []

-- whether bytes begin with the mark
abbrev pub begins_binary : List ℕ → Bool
begins_binary bytes = bytes_eq binary_mark (take 4 bytes)

-- the record with which it ends
abbrev pub end_record : List ℕ
end_record = 0 ∷ []

-- A number in groups of seven bits, the lowest first, with at most so many behind the first. Each byte but the last is 128 more than its group.
unfoldable pub groups_of : ℕ → ℕ → List ℕ
groups_of zero n = n ∷ []
groups_of (suc more) n = if nat_lt n 128 then n ∷ [] else (128 + n % 128) ∷ groups_of more (n / 128)

-- the one spelling of a number of at most 64 bits
abbrev pub number_bytes : ℕ → List ℕ
number_bytes n = groups_of 9 n

-- the spellings of numbers, one after another
abbrev pub numbers_bytes : List ℕ → List ℕ
numbers_bytes [] = []
numbers_bytes (n ∷ numbers) = number_bytes n ++ numbers_bytes numbers

-- a record's tag and its numbers
pub record Fields : Type 0 where
  pub tag : ℕ
  pub numbers : List ℕ

abbrev pub fields : ℕ → List ℕ → Fields
fields tag numbers = record { tag = tag; numbers = numbers }

-- a truth value, as a number
abbrev pub bit : Bool → ℕ
bit true = 1
bit false = 0

-- what the record of a command has
unfoldable pub command_fields : Command → Fields
command_fields (NewFixed root type_id) = fields 16 (root ∷ type_id ∷ [])
command_fields (NewArray root type_id len) = fields 17 (root ∷ type_id ∷ len ∷ [])
command_fields (NewWeak root type_id target) = fields 18 (root ∷ type_id ∷ target ∷ [])
command_fields (Put root item value) = fields 19 (root ∷ item ∷ value ∷ [])
command_fields (Get root item) = fields 20 (root ∷ item ∷ [])
command_fields (Link root item from) = fields 21 (root ∷ item ∷ from ∷ [])
command_fields (Load to root item) = fields 22 (to ∷ root ∷ item ∷ [])
command_fields (CopyRefs root item from from_item count) = fields 23 (root ∷ item ∷ from ∷ from_item ∷ count ∷ [])
command_fields (MoveRoot to from) = fields 24 (to ∷ from ∷ [])
command_fields (DropRoot root) = fields 25 (root ∷ [])
command_fields (Same a b) = fields 26 (a ∷ b ∷ [])
command_fields (Ident root) = fields 27 (root ∷ [])
command_fields (Hash root) = fields 28 (root ∷ [])
command_fields (Place root) = fields 29 (root ∷ [])
command_fields (Pin root) = fields 30 (root ∷ [])
command_fields (Unpin root) = fields 31 (root ∷ [])
command_fields (Deref to root) = fields 32 (to ∷ root ∷ [])
command_fields (Register root queue) = fields 33 (root ∷ queue ∷ [])
command_fields (NextFinal to queue) = fields 34 (to ∷ queue ∷ [])
command_fields (MakeLink p number root light own) = fields 35 (bit p ∷ number ∷ root ∷ bit light ∷ own ∷ [])
command_fields (Inc number) = fields 36 (number ∷ [])
command_fields (Dec number) = fields 37 (number ∷ [])
command_fields (Count number) = fields 38 (number ∷ [])
command_fields (FromObj root) = fields 39 (root ∷ [])
command_fields (ToObj to number) = fields 40 (to ∷ number ∷ [])
command_fields NextDead = fields 41 []
command_fields Minor = fields 42 []
command_fields Step = fields 43 []
command_fields Collect = fields 44 []
command_fields Used = fields 45 []

-- what the record of a type has: a weak type has no destructor
abbrev pub type_fields : ℕ → Shape → Bool → Fields
type_fields id (Fixed ints refs) destructor = fields 2 (id ∷ ints ∷ refs ∷ bit destructor ∷ [])
type_fields id IntArray destructor = fields 3 (id ∷ bit destructor ∷ [])
type_fields id RefArray destructor = fields 4 (id ∷ bit destructor ∷ [])
type_fields id Weak destructor = fields 5 (id ∷ [])

-- what the record of an item has. A blank line has none, and stands here with that of the end.
abbrev pub item_fields : Item → Fields
item_fields Blank = fields 0 []
item_fields (Setting name value) = fields 1 (name ∷ value ∷ [])
item_fields (TypeDef id info) = type_fields id info.shape info.destructor
item_fields (CommandItem command) = command_fields command

abbrev pub fields_bytes : Fields → List ℕ
fields_bytes of = of.tag ∷ numbers_bytes of.numbers

-- the one record of an item that is not blank
abbrev pub item_record : Item → List ℕ
item_record item = fields_bytes (item_fields item)

-- the records of items, one after another
abbrev pub items_records : List Item → List ℕ
items_records [] = []
items_records (item ∷ items) = item_record item ++ items_records items

-- the binary script of items that are not blank
abbrev pub binary_script : List Item → List ℕ
binary_script items = binary_mark ++ (items_records items ++ end_record)
