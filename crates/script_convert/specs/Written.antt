-- What writing a piece leaves in a sink.
use Rattle.std.specs.Prelude.{◌≡◌, ℕ, ◌<◌, List, [], ◌∷◌, ◌++◌, length, Option, Result, Ok, Err}
use Rattle.std.specs.Io.KnownBytes.{Appends, Keeps}
use Rattle.script_convert.specs.declared.end.ConvertEnd.{ConvertEnd}
use Rattle.script_convert.specs.declared.end.ConvertEnd.TheVariants.{Malformed, ReadFault, WriteFault, OutOfMemory}

-- A part of the piece was written, and not all of it.
pub record WritesPart (before after : Option (List ℕ)) (piece : List ℕ) : Type 0 where
  pub part : List ℕ
  pub rest : List ℕ
  pub piece_is : piece ≡ part ++ rest
  pub some : 0 < length rest
  pub written : Appends before after part

-- All of the piece was written, or at a failure a part of it.
abbrev pub Writes : {E : Type 0} → Option (List ℕ) → Option (List ℕ) → List ℕ → Result (Unit {0}) E → Type 0
Writes before after piece (Ok done) = Appends before after piece
Writes before after piece (Err e) = WritesPart before after piece

-- All of the item's piece was written, or at a write fault a part of it, or for want of memory nothing.
abbrev pub WritesItem : Option (List ℕ) → Option (List ℕ) → List ℕ → Result (Unit {0}) ConvertEnd → Type 0
WritesItem before after piece (Ok done) = Appends before after piece
WritesItem before after piece (Err (Malformed k reason)) = ⊥
WritesItem before after piece (Err ReadFault) = ⊥
WritesItem before after piece (Err WriteFault) = WritesPart before after piece
WritesItem before after piece (Err OutOfMemory) = Keeps before after
