-- The numbers of a record, as its reader holds them.
use Rattle.std.specs.Prelude.{◌≡◌, ⊤, [], ◌∷◌, ℕ, ◌<◌, ◌^◌, All, List, take, Result, Ok, Err}
use Rattle.text_model.specs.declared.item.Item.{Item}
use Rattle.text_model.specs.declared.item.BadLine.{BadLine}
use Rattle.text_model.specs.Range.{is_above_ids}
use Rattle.text_model.specs.Numbers.{◌>>=◌}
use Rattle.text_model.specs.ItemLine.{HasLine}
use Rattle.text_model.specs.Binary.{Fields, item_fields, numbers_bytes}
use Rattle.text_model.specs.BinaryReading.{one_of, two_of}
use Rattle.script_text.specs.Words.{unless_above}
use Rattle.script_binary.specs.declared.end.BinEnd.{BinEnd}

-- the numbers that were read into the front of an array
abbrev pub numbers_read : ℕ → Result (List ℕ) BinEnd → Result (List ℕ) BinEnd
numbers_read count (Ok fields) = Ok (take count fields)
numbers_read count (Err end) = Err end

-- one slot or structure
abbrev pub one_slot : List ℕ → Result ℕ BadLine
one_slot numbers = do
  slot ← one_of numbers
  unless_above (is_above_ids slot) slot

-- two slots, queues or structures
abbrev pub two_slots : List ℕ → Result (ℕ × ℕ) BadLine
two_slots numbers = do
  slots ← two_of numbers
  a ← unless_above (is_above_ids slots.0) slots.0
  b ← unless_above (is_above_ids slots.1) slots.1
  Ok (a, b)

-- each number of a record has at most 64 bits
abbrev pub AreWords : Fields → Type 0
AreWords of = All (λ n. n < 2 ^ 64) of.numbers

-- the bytes of an item's record behind its tag
abbrev pub body_bytes : Item → List ℕ
body_bytes item = numbers_bytes (item_fields item).numbers

-- the item can be said by a line, and its record has this tag
pub record HasTag (tag : ℕ) (item : Item) : Type 0 where
  pub has_line : HasLine item
  pub tag_is : (item_fields item).tag ≡ tag

-- an item that has a record, with numbers of at most 64 bits
pub record IsEncoded (item : Item) : Type 0 where
  pub has_line : HasLine item
  pub words : AreWords (item_fields item)

abbrev pub AreEncoded : List Item → Type 0
AreEncoded [] = ⊤
AreEncoded (item ∷ items) = IsEncoded item × AreEncoded items
