-- What a call for the next line did, by its answer.
use Rattle.std.specs.Prelude.{◌≡◌, ℕ, ◌+◌, ◌<◌, ◌≤◌, List, take, Option, Some, None, true, false, Result, Ok, Err, IsErrOf, codes}
use Rattle.std.specs.Io.KnownBytes.{IsAtEnd}
use Rattle.heap_io.specs.Causes.{Rose}
use Rattle.script_text.specs.declared.reader.ReadEnd.{ReadEnd}
use Rattle.script_text.specs.declared.reader.ReadEnd.TheVariants.{TooMany, TooLong, ReadFault}
use Rattle.script_text.specs.Reader.{ReaderState, ahead, HandsOut, Longer, BreaksOff, line_limit, length_limit}

-- A reader that was old and is new put a line's bytes at the front of the buffer, or ended.
abbrev pub Reads : ReaderState → ReaderState → Option (List ℕ) → Option (List ℕ) → List ℕ
    → Result (Option ℕ) ReadEnd → Type 0
Reads old new before after buf (Ok (Some n)) =
    (n ≤ length_limit) × HandsOut old new (ahead old before) (ahead new after) (take n buf)
Reads old new before after buf (Ok None) = IsAtEnd (ahead old before) × (new.ended ≡ true)
Reads old new before after buf (Err TooMany) =
    (old.count ≡ line_limit) × Longer 0 (ahead old before)
Reads old new before after buf (Err TooLong) =
    (old.count < line_limit) × Longer (length_limit + 1) (ahead old before)
Reads old new before after buf (Err ReadFault) =
    (old.ended ≡ false) × BreaksOff (ahead old before) after

-- what is printed of it
abbrev pub end_text : ReadEnd → List ℕ
end_text TooMany = codes "too many lines"
end_text TooLong = codes "a line is too long"
end_text ReadFault = codes "a read failed"

-- A fault is answered only where the count of faults rose.
pub record HasReadCause {T : Type 0} (before now : ℕ) (result : Result T ReadEnd) : Type 0 where
  pub later : before ≤ now
  pub fault : IsErrOf result ReadFault → Rose before now
