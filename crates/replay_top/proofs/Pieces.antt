-- One piece of a text written after another.
use Rattle.std.proofs.Common.{◌≡◌, ℕ, List, ◌++◌, Option, Result, Ok, Err}
use Rattle.std.specs.Io.KnownBytes.{Appends}
use Rattle.std.proofs.KnownBytes.{Appends-trans}
use Rattle.heap_io.specs.declared.Failed.{Failed}
use Rattle.script_convert.specs.Written.{Writes, WritesPart}
use Rattle.script_convert.proofs.FormLaws.{part_within, part_behind}

pub writes_after : (a b c : Option (List ℕ)) (s t : List ℕ) (r : Result (Unit {0}) Failed) → Appends a b s → Writes b c t r → Writes a c (s ++ t) r
writes_after a b c s t (Ok done) all w = Appends-trans a b c s t all w
writes_after a b c s t (Err e) all w = part_behind a b c s t all w

pub writes_err : (a b : Option (List ℕ)) (s : List ℕ) (r : Result (Unit {0}) Failed) (e : Failed) → r ≡ Err e → WritesPart a b s → Writes a b s r
writes_err a b s r e is w = rw is w

-- both pieces, where the first was written whole
pub writes_both : (a b c : Option (List ℕ)) (s t text : List ℕ) (r : Result (Unit {0}) Failed) → text ≡ s ++ t → Appends a b s → Writes b c t r → Writes a c text r
writes_both a b c s t text r is all w = rw is (writes_after a b c s t r all w)

-- a part of the first piece
pub writes_first : (a b : Option (List ℕ)) (s t text : List ℕ) (r : Result (Unit {0}) Failed) (e : Failed) → text ≡ s ++ t → r ≡ Err e → WritesPart a b s → Writes a b text r
writes_first a b s t text r e is failed w = rw is (writes_err a b (s ++ t) r e failed (part_within a b s t w))
