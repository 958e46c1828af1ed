-- What the parts of a reader of records take from the bytes ahead. `read` is what the definition reads at the front of bytes.
use Rattle.std.specs.Prelude.{◌≡◌, ◌≤◌, IsErrOf, ℕ, List, [], ◌∷◌, ◌++◌, Option, Some, Result, Ok, Err}
use Rattle.std.specs.Io.KnownBytes.{Consumes, IsAtEnd, Keeps}
use Rattle.heap_io.specs.Causes.{Rose}
use Rattle.text_model.specs.declared.item.BadLine.{BadLine}
use Rattle.text_model.specs.declared.item.BadLine.TheVariants as bad
use Rattle.script_binary.specs.declared.end.BinEnd.{BinEnd}
use Rattle.script_binary.specs.declared.end.BinEnd.TheVariants.{TooMany, Syntax, Range, ReadFault}

-- The byte at the front was taken. `Syntax` is the input's end. A fault takes nothing.
abbrev pub TakesByte : Option (List ℕ) → Option (List ℕ) → Result ℕ BinEnd → Type 0
TakesByte before after (Ok byte) = Consumes before after (byte ∷ [])
TakesByte before after (Err TooMany) = ⊥
TakesByte before after (Err Syntax) = Consumes before after [] × IsAtEnd after
TakesByte before after (Err Range) = ⊥
TakesByte before after (Err ReadFault) = Keeps before after

-- The input ends, or a byte came.
abbrev pub TakesEnd : Option (List ℕ) → Option (List ℕ) → Result (Unit {0}) BinEnd → Type 0
TakesEnd before after (Ok done) = Consumes before after [] × IsAtEnd after
TakesEnd before after (Err TooMany) = ⊥
TakesEnd before after (Err Syntax) = (byte : ℕ) × Consumes before after (byte ∷ [])
TakesEnd before after (Err Range) = ⊥
TakesEnd before after (Err ReadFault) = Keeps before after

-- The bytes at the front were taken, and x is read from them, whatever follows.
pub record TakesWhole {X : Type 0} (read : List ℕ → Result (X × List ℕ) BadLine) (before after : Option (List ℕ)) (bytes : List ℕ) (x : X)
    : Type 0 where
  pub taken : Consumes before after bytes
  pub reads : (rest : List ℕ) → read (bytes ++ rest) ≡ Ok (x, rest)

-- Nothing is read from the bytes ahead, for this reason, which shows in the part that was taken, or in the input's end behind it.
pub record IsRefused {X : Type 0} (read : List ℕ → Result (X × List ℕ) BadLine) (before after : Option (List ℕ)) (reason : BadLine)
    : Type 0 where
  pub part : List ℕ
  pub taken : Consumes before after part
  pub refused : (rest : List ℕ) → after ≡ Some rest → read (part ++ rest) ≡ Err reason

-- A read failed, and the part that was taken is not whole.
pub record BreaksOff {X : Type 0} (read : List ℕ → Result (X × List ℕ) BadLine) (before after : Option (List ℕ)) : Type 0 where
  pub part : List ℕ
  pub taken : Consumes before after part
  pub unfinished : read part ≡ Err bad.Syntax

-- What was taken, where x has these bytes.
abbrev pub Takes : {X : Type 0} → (List ℕ → Result (X × List ℕ) BadLine) → (X → List ℕ) → Option (List ℕ) → Option (List ℕ)
    → Result X BinEnd → Type 0
Takes read spell before after (Ok x) = TakesWhole read before after (spell x) x
Takes read spell before after (Err TooMany) = ⊥
Takes read spell before after (Err Syntax) = IsRefused read before after bad.Syntax
Takes read spell before after (Err Range) = IsRefused read before after bad.Range
Takes read spell before after (Err ReadFault) = BreaksOff read before after

-- A fault is answered only where the count of faults rose, and then no byte is held.
pub record HasBinCause {T : Type 0} (before now : ℕ) (held : List ℕ) (result : Result T BinEnd) : Type 0 where
  pub later : before ≤ now
  pub fault : IsErrOf result ReadFault → Rose before now
  pub none_held : IsErrOf result ReadFault → held ≡ []
