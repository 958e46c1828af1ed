-- What the test for the mark of a binary script takes from the front of a file.
use Rattle.std.specs.Prelude.{◌≡◌, ℕ, ◌+◌, ◌<◌, ◌≤◌, Result, Ok, Err, Bool, true, false, List, [], ◌++◌, length, take, Option, IfSome, bytes_eq}
use Rattle.std.specs.Io.KnownBytes.{Consumes, IsAtEnd, Keeps}
use Rattle.heap_io.specs.declared.Failed.{Failed}
use Rattle.text_model.specs.Binary.{binary_mark, begins_binary}

-- The mark was taken, or it does not stand at the front and nothing was taken.
abbrev pub TestsMark : Option (List ℕ) → Option (List ℕ) → Bool → Type 0
TestsMark before after true = Consumes before after binary_mark
TestsMark before after false = Keeps before after × IfSome before (λ bytes. begins_binary bytes ≡ false)

-- A part of the mark was taken from the file, and not all of it.
pub record BreaksMark (before rest : Option (List ℕ)) : Type 0 where
  pub part : List ℕ
  pub behind : List ℕ
  pub of_mark : binary_mark ≡ part ++ behind
  pub short : length part < 4
  pub taken : Consumes before rest part

-- The bytes of a buffer up to a place stay, and those that were read stand behind them.
abbrev pub ReadsBehind : ℕ → List ℕ → List ℕ → Option (List ℕ) → Option (List ℕ) → Result ℕ Failed → Type 0
ReadsBehind from old new before after (Ok count) =
    (got : List ℕ)
    × (take (from + count) new ≡ take from old ++ got)
    × (from + count ≤ length new)
    × Consumes before after got
    × (count ≡ 0 → IsAtEnd after × (got ≡ []))
ReadsBehind from old new before after (Err failed) = Keeps before after
