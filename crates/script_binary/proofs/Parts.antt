-- What reading takes in parts, one behind another.
use Rattle.std.proofs.Common.{◌≡◌, ℕ, List, [], ◌++◌, Option, Some, Result, Err, ap, ◌∙◌, subst, append_assoc, append-nil}
use Rattle.std.specs.Io.KnownBytes.{Consumes, IsAtEnd}
use Rattle.std.proofs.KnownBytes.{Consumes-trans, Consumes-kept}
use Rattle.text_model.specs.declared.item.BadLine.{BadLine}
use Rattle.text_model.specs.declared.item.BadLine.TheVariants as bad
use Rattle.script_binary.specs.declared.end.BinEnd.{BinEnd}
use Rattle.script_binary.specs.declared.end.BinEnd.TheVariants.{TooMany, Syntax, Range, ReadFault}
use Rattle.script_binary.specs.Taking.{TakesByte, IsRefused, BreaksOff, Takes}

-- A front and then nothing was taken.
pub then_nothing : (before mid after : Option (List ℕ)) (front : List ℕ) → Consumes before mid front → Consumes mid after []
    → Consumes before after front
then_nothing before mid after front taken nothing = rw (← append-nil front) (Consumes-trans before mid after front [] taken nothing)

-- Where the input ends, nothing is behind.
pub none_behind : (after : Option (List ℕ)) (rest : List ℕ) → IsAtEnd after → after ≡ Some rest → rest ≡ []
none_behind after rest end is = subst IsAtEnd is end

-- what is refused behind a front is refused
pub record Passes {X Y : Type 0} (front : List ℕ) (inner : List ℕ → Result (X × List ℕ) BadLine)
    (outer : List ℕ → Result (Y × List ℕ) BadLine) : Type 0 where
  pub passes : (rest : List ℕ) (reason : BadLine) → inner rest ≡ Err reason → outer (front ++ rest) ≡ Err reason

refused_behind : {X Y : Type 0} (inner : List ℕ → Result (X × List ℕ) BadLine) (outer : List ℕ → Result (Y × List ℕ) BadLine)
    → (front : List ℕ) (before mid after : Option (List ℕ)) (reason : BadLine) → Consumes before mid front → Passes front inner outer
    → IsRefused inner mid after reason → IsRefused outer before after reason
refused_behind inner outer front before mid after reason taken p h = record {
  part = front ++ h.part;
  taken = Consumes-trans before mid after front h.part taken h.taken;
  refused = λ rest is. ap outer (append_assoc front h.part rest) ∙ p.passes (h.part ++ rest) reason (h.refused rest is);
}

breaks_behind : {X Y : Type 0} (inner : List ℕ → Result (X × List ℕ) BadLine) (outer : List ℕ → Result (Y × List ℕ) BadLine)
    → (front : List ℕ) (before mid after : Option (List ℕ)) → Consumes before mid front → Passes front inner outer
    → BreaksOff inner mid after → BreaksOff outer before after
breaks_behind inner outer front before mid after taken p h = record {
  part = front ++ h.part;
  taken = Consumes-trans before mid after front h.part taken h.taken;
  unfinished = p.passes h.part bad.Syntax h.unfinished;
}

-- What was not read behind a front is not read.
pub takes_behind : {X Y : Type 0} (inner : List ℕ → Result (X × List ℕ) BadLine) (outer : List ℕ → Result (Y × List ℕ) BadLine)
    → (spell : X → List ℕ) (other : Y → List ℕ)
    → (front : List ℕ) (before mid after : Option (List ℕ)) (end : BinEnd) → Consumes before mid front → Passes front inner outer
    → Takes inner spell mid after (Err end) → Takes outer other before after (Err end)
takes_behind inner outer spell other front before mid after TooMany taken p h = absurd h
takes_behind inner outer spell other front before mid after Syntax taken p h =
    refused_behind inner outer front before mid after bad.Syntax taken p h
takes_behind inner outer spell other front before mid after Range taken p h =
    refused_behind inner outer front before mid after bad.Range taken p h
takes_behind inner outer spell other front before mid after ReadFault taken p h =
    breaks_behind inner outer front before mid after taken p h

-- No byte came behind a front that is not whole.
pub takes_no_byte : {X : Type 0} (read : List ℕ → Result (X × List ℕ) BadLine) (spell : X → List ℕ) (front : List ℕ)
    → (before mid after : Option (List ℕ)) (end : BinEnd) → Consumes before mid front → read front ≡ Err bad.Syntax
    → TakesByte mid after (Err end) → Takes read spell before after (Err end)
takes_no_byte read spell front before mid after TooMany taken partial h = absurd h
takes_no_byte read spell front before mid after Syntax taken partial h = record {
  part = front;
  taken = then_nothing before mid after front taken h.0;
  refused = λ rest is. ap (λ l. read (front ++ l)) (none_behind after rest h.1 is) ∙ ap read (append-nil front) ∙ partial;
}
takes_no_byte read spell front before mid after Range taken partial h = absurd h
takes_no_byte read spell front before mid after ReadFault taken partial h = record {
  part = front;
  taken = Consumes-kept before mid after front taken h;
  unfinished = partial;
}

-- The answer is the error that came.
pub takes_error : {X : Type 0} (read : List ℕ → Result (X × List ℕ) BadLine) (spell : X → List ℕ) (before after : Option (List ℕ))
    → (answer : Result X BinEnd) (end : BinEnd) → answer ≡ Err end → Takes read spell before after (Err end)
    → Takes read spell before after answer
takes_error read spell before after answer end is h = rw is h
