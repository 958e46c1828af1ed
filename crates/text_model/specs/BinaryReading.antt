-- What the bytes of a binary script say.
use Rattle.std.specs.Prelude.{ℕ, zero, suc, ◌+◌, ◌-◌, ◌*◌, ◌^◌, nat_lt, nat_le, Bool, true, false, ◌||◌, ◌==◌, if◌then◌else◌, List, [], ◌∷◌, Option, Some, None, Result, Ok, Err, slice_get}
use Rattle.type_table.specs.declared.info.Shape.{Shape}
use Rattle.type_table.specs.declared.info.Shape.TheVariants.{Fixed, IntArray, RefArray, Weak}
use Rattle.text_model.specs.declared.command.Command.{Command}
use Rattle.text_model.specs.declared.command.Command.TheVariants.{NewFixed, NewArray, NewWeak, Put, Get, Link, Load, CopyRefs, MoveRoot, DropRoot, Same, Ident, Hash, Place, Pin, Unpin, Deref, Register, NextFinal, MakeLink, Inc, Dec, Count, FromObj, ToObj, NextDead, Minor, Step, Collect, Used}
use Rattle.text_model.specs.declared.item.Item.{Item}
use Rattle.text_model.specs.declared.item.Item.TheVariants.{Setting}
use Rattle.text_model.specs.declared.item.BadLine.{BadLine}
use Rattle.text_model.specs.declared.item.BadLine.TheVariants.{Syntax}
use Rattle.text_model.specs.declared.item.Reason.{Reason}
use Rattle.text_model.specs.declared.item.Reason.TheVariants as reason
use Rattle.text_model.specs.Numbers.{◌>>=◌}
use Rattle.text_model.specs.CommandGrammar.{in_range}
use Rattle.text_model.specs.Grammar.{type_in_range, as_item}
use Rattle.text_model.specs.Script.{bad_reason}

-- A group below a number: a 0 in front of it would be a longer spelling, and both together have at most 64 bits.
abbrev pub with_low : ℕ → ℕ × List ℕ → Result (ℕ × List ℕ) BadLine
with_low low high = if high.0 == 0 || nat_le (2 ^ 57) high.0 then Err Syntax else Ok (low + 128 * high.0, high.1)

-- the number at the front, which has at most so many groups, and the bytes behind it
unfoldable pub groups_at : ℕ → List ℕ → Result (ℕ × List ℕ) BadLine
groups_at zero bytes = Err Syntax
groups_at (suc more) [] = Err Syntax
groups_at (suc more) (b ∷ bytes) = if nat_lt b 128 then Ok (b, bytes) else (groups_at more bytes >>= with_low (b - 128))

abbrev pub number_at : List ℕ → Result (ℕ × List ℕ) BadLine
number_at bytes = groups_at 10 bytes

-- so many numbers at the front, and the bytes behind them
unfoldable pub numbers_at : ℕ → List ℕ → Result (List ℕ × List ℕ) BadLine
numbers_at zero bytes = Ok ([], bytes)
numbers_at (suc n) bytes = do
  first ← number_at bytes
  more ← numbers_at n first.1
  Ok (first.0 ∷ more.0, more.1)

-- the truth value that a number is
abbrev pub truth : ℕ → Result Bool BadLine
truth n = if n == 0 then Ok false else if n == 1 then Ok true else Err Syntax

-- so many numbers and no other
abbrev pub none_of : List ℕ → Result (Unit {0}) BadLine
none_of [] = Ok tt
none_of (a ∷ numbers) = Err Syntax

abbrev pub one_of : List ℕ → Result ℕ BadLine
one_of (a ∷ []) = Ok a
one_of numbers = Err Syntax

abbrev pub two_of : List ℕ → Result (ℕ × ℕ) BadLine
two_of (a ∷ b ∷ []) = Ok (a, b)
two_of numbers = Err Syntax

abbrev pub three_of : List ℕ → Result (ℕ × ℕ × ℕ) BadLine
three_of (a ∷ b ∷ c ∷ []) = Ok (a, b, c)
three_of numbers = Err Syntax

abbrev pub four_of : List ℕ → Result (ℕ × ℕ × ℕ × ℕ) BadLine
four_of (a ∷ b ∷ c ∷ d ∷ []) = Ok (a, b, c, d)
four_of numbers = Err Syntax

abbrev pub five_of : List ℕ → Result (ℕ × ℕ × ℕ × ℕ × ℕ) BadLine
five_of (a ∷ b ∷ c ∷ d ∷ e ∷ []) = Ok (a, b, c, d, e)
five_of numbers = Err Syntax

abbrev pub bare : Command → List ℕ → Result Command BadLine
bare command numbers = do
  end ← none_of numbers
  in_range command

abbrev pub of_one : (ℕ → Command) → List ℕ → Result Command BadLine
of_one command numbers = do
  a ← one_of numbers
  in_range (command a)

abbrev pub of_two : (ℕ → ℕ → Command) → List ℕ → Result Command BadLine
of_two command numbers = do
  n ← two_of numbers
  in_range (command n.0 n.1)

abbrev pub of_three : (ℕ → ℕ → ℕ → Command) → List ℕ → Result Command BadLine
of_three command numbers = do
  n ← three_of numbers
  in_range (command n.0 n.1 n.2)

-- `copyrefs R I S J M`
unfoldable pub copy_of : List ℕ → Result Command BadLine
copy_of numbers = do
  n ← five_of numbers
  in_range (CopyRefs n.0 n.1 n.2 n.3 n.4)

-- `plink C R K N` and `olink C R K N`
unfoldable pub link_of : List ℕ → Result Command BadLine
link_of numbers = do
  n ← five_of numbers
  p ← truth n.0
  light ← truth n.3
  in_range (MakeLink p n.1 n.2 light n.4)

-- commands on C structures and on the collector
unfoldable pub structure_with : ℕ → List ℕ → Result Command BadLine
structure_with tag numbers =
    if tag == 35 then link_of numbers else
    if tag == 36 then of_one Inc numbers else
    if tag == 37 then of_one Dec numbers else
    if tag == 38 then of_one Count numbers else
    if tag == 39 then of_one FromObj numbers else
    if tag == 40 then of_two ToObj numbers else
    if tag == 41 then bare NextDead numbers else
    if tag == 42 then bare Minor numbers else
    if tag == 43 then bare Step numbers else
    if tag == 44 then bare Collect numbers else
    if tag == 45 then bare Used numbers else
    Err Syntax

-- commands on slots and on what becomes of an object
unfoldable pub slot_with : ℕ → List ℕ → Result Command BadLine
slot_with tag numbers =
    if tag == 24 then of_two MoveRoot numbers else
    if tag == 25 then of_one DropRoot numbers else
    if tag == 26 then of_two Same numbers else
    if tag == 27 then of_one Ident numbers else
    if tag == 28 then of_one Hash numbers else
    if tag == 29 then of_one Place numbers else
    if tag == 30 then of_one Pin numbers else
    if tag == 31 then of_one Unpin numbers else
    if tag == 32 then of_two Deref numbers else
    if tag == 33 then of_two Register numbers else
    if tag == 34 then of_two NextFinal numbers else
    structure_with tag numbers

-- commands on objects, and then all others
unfoldable pub command_with : ℕ → List ℕ → Result Command BadLine
command_with tag numbers =
    if tag == 16 then of_two NewFixed numbers else
    if tag == 17 then of_three NewArray numbers else
    if tag == 18 then of_three NewWeak numbers else
    if tag == 19 then of_three Put numbers else
    if tag == 20 then of_two Get numbers else
    if tag == 21 then of_three Link numbers else
    if tag == 22 then of_three Load numbers else
    if tag == 23 then copy_of numbers else
    slot_with tag numbers

-- the setting of a name from 0 to 12
unfoldable pub setting_by : List ℕ → Result Item BadLine
setting_by numbers = do
  n ← two_of numbers
  if nat_lt 12 n.0 then Err Syntax else Ok (Setting n.0 n.1)

-- a type, whose destructor is told by a number
abbrev pub type_by : ℕ → Shape → ℕ → Result Item BadLine
type_by id shape destructor = do
  destructor ← truth destructor
  type_in_range id (record { shape = shape; destructor = destructor })

abbrev pub fixed_by : List ℕ → Result Item BadLine
fixed_by numbers = do
  n ← four_of numbers
  type_by n.0 (Fixed n.1 n.2) n.3

abbrev pub array_by : Shape → List ℕ → Result Item BadLine
array_by shape numbers = do
  n ← two_of numbers
  type_by n.0 shape n.1

abbrev pub weak_by : List ℕ → Result Item BadLine
weak_by numbers = do
  id ← one_of numbers
  type_in_range id (record { shape = Weak; destructor = false })

-- the item of a tag and its numbers
unfoldable pub item_with : ℕ → List ℕ → Result Item BadLine
item_with tag numbers =
    if tag == 1 then setting_by numbers else
    if tag == 2 then fixed_by numbers else
    if tag == 3 then array_by IntArray numbers else
    if tag == 4 then array_by RefArray numbers else
    if tag == 5 then weak_by numbers else
    (command_with tag numbers >>= as_item)

-- how many numbers the commands have, by their tags from 16 on
abbrev pub command_counts : List ℕ
command_counts =
    2 ∷ 3 ∷ 3 ∷ 3 ∷ 2 ∷ 3 ∷ 3 ∷ 5 ∷ 2 ∷ 1 ∷ 2 ∷ 1 ∷ 1 ∷ 1 ∷ 1 ∷ 1 ∷ 2 ∷ 2 ∷ 2 ∷ 5 ∷ 1 ∷ 1 ∷ 1 ∷ 1 ∷ 2 ∷ 0 ∷ 0 ∷ 0 ∷ 0 ∷ 0 ∷ []

-- how many numbers settings and types have, by their tags from 1 on
abbrev pub setup_counts : List ℕ
setup_counts = 2 ∷ 4 ∷ 2 ∷ 2 ∷ 1 ∷ []

-- how many numbers stand behind a tag of an item
unfoldable pub count_of : ℕ → Option ℕ
count_of tag =
    if tag == 0 then None else
    if nat_lt tag 16 then slice_get setup_counts (tag - 1) else
    slice_get command_counts (tag - 16)

abbrev pub or_syntax : Option ℕ → Result ℕ BadLine
or_syntax None = Err Syntax
or_syntax (Some n) = Ok n

-- what the record at the front says, by its tag and the bytes behind that
unfoldable pub body_at : ℕ → List ℕ → Result (Item × List ℕ) BadLine
body_at tag bytes = do
  n ← or_syntax (count_of tag)
  numbers ← numbers_at n bytes
  item ← item_with tag numbers.0
  Ok (item, numbers.1)

-- The item of the record at the front, and the bytes behind it. The end record is no item's.
abbrev pub record_at : List ℕ → Result (Item × List ℕ) BadLine
record_at [] = Err Syntax
record_at (tag ∷ bytes) = body_at tag bytes

abbrev pub as_unit : Result (Item × List ℕ) BadLine → Result (Option Item × List ℕ) Reason
as_unit (Ok read) = Ok (Some read.0, read.1)
as_unit (Err bad) = Err (bad_reason bad)

-- What unit k of a binary script says, and the bytes behind it. The end says no item.
abbrev pub unit_at : ℕ → List ℕ → Result (Option Item × List ℕ) Reason
unit_at k [] = Err reason.Syntax
unit_at k (tag ∷ bytes) =
    if tag == 0 then Ok (None, bytes) else
    if nat_lt 16000000 k then Err reason.TooManyLines else
    as_unit (body_at tag bytes)
