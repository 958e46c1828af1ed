-- The record of an item is read as that item, whatever follows.
use Rattle.std.proofs.Common.{◌≡◌, ℕ, zero, suc, ◌+◌, ◌-◌, ◌*◌, ◌/◌, ◌%◌, ◌^◌, ◌<◌, ◌≤◌, Bool, true, false, List, [], ◌∷◌, ◌++◌, length, Some, Ok, refl, ap, ◌∙◌, inl, inr, arith, append_assoc}
use Rattle.std.specs.Prelude.{All, nat_lt}
use Rattle.std.proofs.lemmas.Bool.{cases_Bool, ltb-true, ltb-false, le-ltb}
use Rattle.type_table.specs.declared.info.Shape.{Shape}
use Rattle.type_table.specs.declared.info.Shape.TheVariants.{Fixed, IntArray, RefArray, Weak}
use Rattle.text_model.specs.declared.command.Command.{Command}
use Rattle.text_model.specs.declared.command.Command.TheVariants.{NewFixed, NewArray, NewWeak, Put, Get, Link, Load, CopyRefs, MoveRoot, DropRoot, Same, Ident, Hash, Place, Pin, Unpin, Deref, Register, NextFinal, MakeLink, Inc, Dec, Count, FromObj, ToObj, NextDead, Minor, Step, Collect, Used}
use Rattle.text_model.specs.declared.item.Item.{Item}
use Rattle.text_model.specs.declared.item.Item.TheVariants.{Blank, Setting, TypeDef, Command as CommandItem}
use Rattle.text_model.specs.Numbers.{◌>>=◌}
use Rattle.text_model.specs.CommandGrammar.{in_range}
use Rattle.text_model.specs.Grammar.{as_item}
use Rattle.text_model.specs.ItemLine.{HasLine, IsTypeInRange}
use Rattle.text_model.specs.Binary.{groups_of, number_bytes, numbers_bytes, command_fields, type_fields, item_fields, item_record}
use Rattle.text_model.specs.BinaryReading.{with_low, groups_at, number_at, numbers_at, copy_of, link_of, structure_with, slot_with, command_with, setting_by, item_with, count_of, body_at, record_at}
use Rattle.script_binary.specs.Fields.{AreWords}
use Rattle.script_binary.proofs.NumberLaws.{groups_of-last, groups_at-last, groups_at-more, with_low-fits}

-- a number with one group or more behind its first is read again, where what is behind is
groups_more : (more n : ℕ) (rest : List ℕ) → 128 ≤ n → n < 2 ^ 64
    → groups_at (suc more) (groups_of more (n / 128) ++ rest) ≡ Ok (n / 128, rest)
    → groups_at (suc (suc more)) (groups_of (suc more) n ++ rest) ≡ Ok (n, rest)
unfolding groups_of
groups_more more n rest much small again =
    let b : ℕ = 128 + n % 128 in
    let head : groups_of (suc more) n ≡ b ∷ groups_of more (n / 128) = rw (le-ltb n 128 much) refl in
    let low : b - 128 ≡ n % 128 = omega arith in
    let whole : b - 128 + 128 * (n / 128) ≡ n = omega arith in
    ap (λ l. groups_at (suc (suc more)) (l ++ rest)) head
    ∙ groups_at-more (suc more) b (groups_of more (n / 128) ++ rest) (omega arith)
    ∙ ap (λ read. read >>= with_low (b - 128)) again
    ∙ with_low-fits (b - 128) (n / 128) rest (omega arith) (omega arith)
    ∙ ap (λ k. Ok (k, rest)) whole

groups_again : (more n : ℕ) (rest : List ℕ) → n < 128 ^ suc more → n < 2 ^ 64 → groups_at (suc more) (groups_of more n ++ rest) ≡ Ok (n, rest)
groups_again zero n rest fits small =
    let last : n < 128 = omega arith in
    ap (λ l. groups_at 1 (l ++ rest)) (groups_of-last 0 n last) ∙ groups_at-last 0 n rest last
groups_again (suc more) n rest fits small =
    elim (cases_Bool (nat_lt n 128)) [
      | inl few ↦
          let last : n < 128 = ltb-true n 128 few in
          ap (λ l. groups_at (suc (suc more)) (l ++ rest)) (groups_of-last (suc more) n last) ∙ groups_at-last (suc more) n rest last
      | inr many ↦
          groups_more more n rest (ltb-false n 128 many) small (groups_again more (n / 128) rest (omega (arith, fits)) (omega arith))
    ]

number_again : (n : ℕ) (rest : List ℕ) → n < 2 ^ 64 → number_at (number_bytes n ++ rest) ≡ Ok (n, rest)
number_again n rest small = groups_again 9 n rest (omega arith) small

numbers_step : (m : ℕ) (xs : List ℕ) (n : ℕ) (ys ns zs : List ℕ) → number_at xs ≡ Ok (n, ys) → numbers_at m ys ≡ Ok (ns, zs)
    → numbers_at (suc m) xs ≡ Ok (n ∷ ns, zs)
unfolding numbers_at
numbers_step m xs n ys ns zs first more = rw (first, more) refl

numbers_none : (xs : List ℕ) → numbers_at 0 xs ≡ Ok ([], xs)
unfolding numbers_at
numbers_none xs = refl

abbrev Word : ℕ → Type 0
Word n = n < 2 ^ 64

numbers_again : (ns rest : List ℕ) → All Word ns → numbers_at (length ns) (numbers_bytes ns ++ rest) ≡ Ok (ns, rest)
numbers_again [] rest small = numbers_none rest
numbers_again (n ∷ ns) rest small =
    let first : n < 2 ^ 64 = small 0 0 (omega arith) in
    let others : All Word ns = λ k d within. small (suc k) d (omega arith) in
    ap (numbers_at (suc (length ns))) (append_assoc (number_bytes n) (numbers_bytes ns) rest)
    ∙ numbers_step (length ns) (number_bytes n ++ (numbers_bytes ns ++ rest)) n (numbers_bytes ns ++ rest) ns rest
    (number_again n (numbers_bytes ns ++ rest) first) (numbers_again ns rest others)

-- what a tag and its numbers say is read behind the tag
body_again : (tag : ℕ) (ns rest : List ℕ) (item : Item) → count_of tag ≡ Some (length ns) → All Word ns → item_with tag ns ≡ Ok item
    → body_at tag (numbers_bytes ns ++ rest) ≡ Ok (item, rest)
unfolding body_at
body_again tag ns rest item counted small says = rw (counted, numbers_again ns rest small, says) refl

command_count : (c : Command) → count_of (command_fields c).tag ≡ Some (length (command_fields c).numbers)
unfolding count_of command_fields
command_count (NewFixed root type_id) = refl
command_count (NewArray root type_id len) = refl
command_count (NewWeak root type_id target) = refl
command_count (Put root item value) = refl
command_count (Get root item) = refl
command_count (Link root item from) = refl
command_count (Load to root item) = refl
command_count (CopyRefs root item from from_item count) = refl
command_count (MoveRoot to from) = refl
command_count (DropRoot root) = refl
command_count (Same a b) = refl
command_count (Ident root) = refl
command_count (Hash root) = refl
command_count (Place root) = refl
command_count (Pin root) = refl
command_count (Unpin root) = refl
command_count (Deref to root) = refl
command_count (Register root queue) = refl
command_count (NextFinal to queue) = refl
command_count (MakeLink p number root light own) = refl
command_count (Inc number) = refl
command_count (Dec number) = refl
command_count (Count number) = refl
command_count (FromObj root) = refl
command_count (ToObj to number) = refl
command_count NextDead = refl
command_count Minor = refl
command_count Step = refl
command_count Collect = refl
command_count Used = refl

-- what a command's tag and its numbers say
command_says : (c : Command) → item_with (command_fields c).tag (command_fields c).numbers ≡ (in_range c >>= as_item)
unfolding item_with command_with slot_with structure_with copy_of link_of command_fields
command_says (NewFixed root type_id) = refl
command_says (NewArray root type_id len) = refl
command_says (NewWeak root type_id target) = refl
command_says (Put root item value) = refl
command_says (Get root item) = refl
command_says (Link root item from) = refl
command_says (Load to root item) = refl
command_says (CopyRefs root item from from_item count) = refl
command_says (MoveRoot to from) = refl
command_says (DropRoot root) = refl
command_says (Same a b) = refl
command_says (Ident root) = refl
command_says (Hash root) = refl
command_says (Place root) = refl
command_says (Pin root) = refl
command_says (Unpin root) = refl
command_says (Deref to root) = refl
command_says (Register root queue) = refl
command_says (NextFinal to queue) = refl
command_says (MakeLink true number root true own) = refl
command_says (MakeLink true number root false own) = refl
command_says (MakeLink false number root true own) = refl
command_says (MakeLink false number root false own) = refl
command_says (Inc number) = refl
command_says (Dec number) = refl
command_says (Count number) = refl
command_says (FromObj root) = refl
command_says (ToObj to number) = refl
command_says NextDead = refl
command_says Minor = refl
command_says Step = refl
command_says Collect = refl
command_says Used = refl

command_item : (c : Command) → HasLine (CommandItem c) → (in_range c >>= as_item) ≡ Ok (CommandItem c)
command_item c has = rw (has.below) refl

setting_count : (name value : ℕ) → count_of 1 ≡ Some (length (name ∷ value ∷ []))
unfolding count_of
setting_count name value = refl

setting_says : (name value : ℕ) → name ≤ 12 → item_with 1 (name ∷ value ∷ []) ≡ Ok (Setting name value)
unfolding item_with setting_by
setting_says name value within = rw (le-ltb 12 name within) refl

type_count : (id : ℕ) (shape : Shape) (destructor : Bool)
    → count_of (type_fields id shape destructor).tag ≡ Some (length (type_fields id shape destructor).numbers)
unfolding count_of
type_count id (Fixed ints refs) destructor = refl
type_count id IntArray destructor = refl
type_count id RefArray destructor = refl
type_count id Weak destructor = refl

type_says : (id : ℕ) (shape : Shape) (destructor : Bool) → IsTypeInRange id (record { shape = shape; destructor = destructor })
    → item_with (type_fields id shape destructor).tag (type_fields id shape destructor).numbers
    ≡ Ok (TypeDef id (record { shape = shape; destructor = destructor }))
unfolding item_with
type_says id (Fixed ints refs) true is = rw (is.id_below, is.shape_below) refl
type_says id (Fixed ints refs) false is = rw (is.id_below, is.shape_below) refl
type_says id IntArray true is = rw is.id_below refl
type_says id IntArray false is = rw is.id_below refl
type_says id RefArray true is = rw is.id_below refl
type_says id RefArray false is = rw is.id_below refl
type_says id Weak true is = cc (is.weak refl)
type_says id Weak false is = rw is.id_below refl

-- the record of each item that has a line
pub record_again : (item : Item) → HasLine item → AreWords (item_fields item) → (rest : List ℕ)
    → record_at (item_record item ++ rest) ≡ Ok (item, rest)
record_again Blank has words rest = absurd has
record_again (Setting name value) has words rest =
    body_again 1 (name ∷ value ∷ []) rest (Setting name value) (setting_count name value) words (setting_says name value has.0)
record_again (TypeDef id info) has words rest =
    let of = type_fields id info.shape info.destructor in
    body_again of.tag of.numbers rest (TypeDef id info) (type_count id info.shape info.destructor) words (type_says id info.shape info.destructor has)
record_again (CommandItem c) has words rest =
    let of = command_fields c in
    body_again of.tag of.numbers rest (CommandItem c) (command_count c) words (command_says c ∙ command_item c has)
