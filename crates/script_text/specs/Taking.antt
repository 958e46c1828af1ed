-- What the parts of a reader take from the bytes ahead.
use Rattle.std.specs.Prelude.{◌≡◌, ℕ, ◌<◌, ◌≤◌, List, [], ◌∷◌, ◌++◌, length, take, get_or, Option, Some, None, Result, Ok, Err, IsTrue}
use Rattle.std.specs.Io.KnownBytes.{prepend_known, Consumes, IsAtEnd, Keeps}
use Rattle.heap_io.specs.declared.Failed.{Failed}
use Rattle.script_text.specs.declared.reader.ReadEnd.{ReadEnd}
use Rattle.script_text.specs.declared.reader.ReadEnd.TheVariants.{TooMany, TooLong, ReadFault}
use Rattle.script_text.specs.declared.reader.Taken.{Taken}
use Rattle.script_text.specs.declared.reader.Taken.TheVariants.{Whole, Last, Nothing}
use Rattle.script_text.specs.Reader.{BreaksOff, is_one_line, length_limit}

-- The byte at the front was taken, or the input ends.
abbrev pub TakesByte : Option (List ℕ) → Option (List ℕ) → Result (Option ℕ) ReadEnd → Type 0
TakesByte before after (Ok (Some byte)) = Consumes before after (byte ∷ [])
TakesByte before after (Ok None) = Consumes before after [] × IsAtEnd after
TakesByte before after (Err TooMany) = ⊥
TakesByte before after (Err TooLong) = ⊥
TakesByte before after (Err ReadFault) = Keeps before after

-- The byte at the front was taken, or the input ends. A fault takes nothing.
abbrev pub GivesByte : Option (List ℕ) → Option (List ℕ) → Result (Option ℕ) Failed → Type 0
GivesByte before after (Ok (Some byte)) = Consumes before after (byte ∷ [])
GivesByte before after (Ok None) = Consumes before after [] × IsAtEnd after
GivesByte before after (Err failed) = Keeps before after

-- The first n bytes of the buffer are the bytes of one line.
pub record IsLineOf (buf : List ℕ) (n : ℕ) : Type 0 where
  pub one_line : IsTrue (is_one_line (take n buf))
  pub within : n ≤ length_limit

-- An LF stands behind n bytes, and none in front of it.
pub record IsEndOfLine (bytes : List ℕ) (n : ℕ) : Type 0 where
  pub within : n < length bytes
  pub lf : get_or bytes n 0 ≡ 10
  pub front : IsTrue (is_one_line (take n bytes))

-- The line at the front was taken, or the input ends.
abbrev pub TakesLine : Option (List ℕ) → Option (List ℕ) → List ℕ → Result Taken ReadEnd → Type 0
TakesLine before after buf (Ok (Whole n)) =
    IsLineOf buf n × Consumes before after (take n buf ++ 10 ∷ [])
TakesLine before after buf (Ok (Last n)) =
    IsLineOf buf n × (0 < n) × Consumes before after (take n buf) × IsAtEnd after
TakesLine before after buf (Ok Nothing) = Consumes before after [] × IsAtEnd after
TakesLine before after buf (Err TooMany) = ⊥
TakesLine before after buf (Err TooLong) =
    (part : List ℕ) × IsTrue (is_one_line part) × (length part ≡ 201) × Consumes before after part
TakesLine before after buf (Err ReadFault) = BreaksOff before after

-- Where no byte was held, some were read, or the input ends. What is ahead stays.
abbrev pub Refills : List ℕ → List ℕ → Option (List ℕ) → Option (List ℕ)
    → Result (Unit {0}) Failed → Type 0
Refills old new before after (Ok done) =
    Consumes (prepend_known old before) (prepend_known new after) [] × (new ≡ [] → IsAtEnd after)
Refills old new before after (Err failed) =
    Keeps (prepend_known old before) (prepend_known new after) × (new ≡ [])
