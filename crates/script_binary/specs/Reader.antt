-- What a reader of records has handed out, and what a call for the next item did, by its answer.
use Rattle.std.specs.Prelude.{◌≡◌, ℕ, ◌+◌, ◌≤◌, if◌then◌else◌, Bool, true, false, List, ◌∷◌, ◌++◌, Option, Some, None, Result, Ok, Err, IfSome, codes}
use Rattle.std.specs.Io.KnownBytes.{prepend_known, Consumes, IsAtEnd}
use Rattle.text_model.specs.declared.item.Item.{Item}
use Rattle.text_model.specs.declared.item.BadLine.{BadLine}
use Rattle.text_model.specs.declared.item.BadLine.TheVariants as bad
use Rattle.text_model.specs.declared.item.Reason.{Reason}
use Rattle.text_model.specs.declared.item.Reason.TheVariants as reason
use Rattle.text_model.specs.ItemLine.{HasLine}
use Rattle.text_model.specs.Binary.{item_record, end_record}
use Rattle.text_model.specs.BinaryReading.{record_at, unit_at}
use Rattle.script_binary.specs.declared.end.BinEnd.{BinEnd}
use Rattle.script_binary.specs.declared.end.BinEnd.TheVariants.{TooMany, Syntax, Range, ReadFault}
use Rattle.script_binary.specs.Taking.{BreaksOff}

-- The greatest number of records of a script, without the end record.
abbrev pub record_limit : ℕ
record_limit = 16000000

pub record BinState : Type 0 where
  -- the bytes that were read and not handed out
  pub held : List ℕ
  -- how many items were handed out
  pub count : ℕ
  -- whether the end record was taken
  pub ended : Bool

-- The bytes that are not handed out yet, where the rest of the file is told.
abbrev pub ahead : BinState → Option (List ℕ) → Option (List ℕ)
ahead reader rest = prepend_known reader.held rest

-- The record of an item was taken.
pub record HandsOut (old new : BinState) (before after : Option (List ℕ)) (item : Item) : Type 0 where
  pub has_line : HasLine item
  pub taken : Consumes before after (item_record item)
  pub count : new.count ≡ old.count + 1
  pub number : new.count ≤ record_limit
  pub same : new.ended ≡ old.ended

-- The next unit says nothing, for this reason.
abbrev pub SaysNothing : BinState → Option (List ℕ) → Reason → Type 0
SaysNothing old ahead reason = IfSome ahead (λ bytes. unit_at (old.count + 1) bytes ≡ Err reason)

-- The end record was taken, and a byte stands behind it.
abbrev pub GoesOn : Option (List ℕ) → Type 0
GoesOn ahead = IfSome ahead (λ bytes. (byte : ℕ) × (rest : List ℕ) × (bytes ≡ end_record ++ byte ∷ rest))

-- The next unit is refused as `Syntax`, or that behind the end, where a byte stands there.
abbrev pub IsMalformed : BinState → BinState → Option (List ℕ) → Bool → Type 0
IsMalformed old new ahead true = GoesOn ahead
IsMalformed old new ahead false = SaysNothing old ahead reason.Syntax

-- Nothing was handed out, and the end record was not taken.
abbrev pub Stays : BinState → BinState → Type 0
Stays old new = (new.count ≡ old.count) × (new.ended ≡ false)

-- the number of the unit at which the reader stands: the end record is a unit
abbrev pub unit_number : BinState → ℕ
unit_number reader = if reader.ended then reader.count + 2 else reader.count + 1

-- A reader that was old and is new handed out an item, met the end, or broke off.
abbrev pub Reads : BinState → BinState → Option (List ℕ) → Option (List ℕ) → Result (Option Item) BinEnd → Type 0
Reads old new before after (Ok (Some item)) = HandsOut old new (ahead old before) (ahead new after) item
Reads old new before after (Ok None) =
    Consumes (ahead old before) (ahead new after) end_record
    × IsAtEnd (ahead new after) × (new.ended ≡ true) × (new.count ≡ old.count)
Reads old new before after (Err TooMany) = Stays old new × SaysNothing old (ahead old before) reason.TooManyLines
Reads old new before after (Err Syntax) = (new.count ≡ old.count) × IsMalformed old new (ahead old before) new.ended
Reads old new before after (Err Range) = Stays old new × SaysNothing old (ahead old before) reason.Range
Reads old new before after (Err ReadFault) = BreaksOff record_at (ahead old before) after

abbrev pub end_of_bad : BadLine → BinEnd
end_of_bad bad.Syntax = Syntax
end_of_bad bad.Range = Range

-- what is printed of it
abbrev pub end_text : BinEnd → List ℕ
end_text TooMany = codes "too many records"
end_text Syntax = codes "no form of a record"
end_text Range = codes "a number is too great"
end_text ReadFault = codes "a read failed"
