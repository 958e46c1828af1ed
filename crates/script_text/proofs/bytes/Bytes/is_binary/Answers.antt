use Rattle.std.proofs.Common.{◌≡◌, ℕ, List, true, take, false, inl, inr, length, refl, eqb, sym, ◌∙◌, subst, arith, length-take-le}
use Rattle.std.specs.Prelude.{bytes_eq}
use Rattle.std.specs.List.{starts_with}
use Rattle.text_model.specs.Binary.{binary_mark}
use Rattle.script_text.proofs.MarkReading.{Differs, breaks_mark, mark_absent}
use Rattle.script_text.proofs.bytes.Bytes.is_binary.Goals as goal
use Rattle.script_text.proofs.bytes.Bytes.is_binary.Goals.{then-loop-self-test+else-starts_with, else-loop-self-test}

pub returns-in-Err-clause-breaks : goal.returns-in-Err-clause-breaks
returns-in-Err-clause-breaks g c =
    let piece = c.loop-self.self-inside in
    let held = take piece.end piece.buf.items in
    let P : List ℕ → Type 0 = λ all. starts_with eqb binary_mark (take piece.end all) ≡ true in
    breaks_mark (g.F.Files.rest c.args.files.now) (g.F.Files.rest c.loop-self.files) (g.F.Files.rest c.read_behind.new.files) held
    c.loop-self.invariant.taken c.in-Err.ensures.reads
    (omega (arith, length-take-le piece.end piece.buf.items (omega arith)))
    (subst P c.deref.ensures.value (sym c.starts_with.ensures.value ∙ c.if-starts_with.true))

pub returns-else-binary-clause-tests : goal.returns-else-binary-clause-tests
returns-else-binary-clause-tests g c =
    let piece = c.loop-self.self-inside in
    let held = take piece.end piece.buf.items in
    let long : length held ≡ piece.end = length-take-le piece.end piece.buf.items (omega arith) in
    let P : List ℕ → Type 0 = λ all. c.starts_with-binary.result ≡ bytes_eq binary_mark (take 4 (take piece.end all)) in
    let differs : Differs held = elim c.loop-self-test.branch [
      | then-loop-self-test+else-starts_with w ↦
          let Q : List ℕ → Type 0 = λ all. starts_with eqb binary_mark (take piece.end all) ≡ false in
          inr (omega arith, subst Q w.deref.ensures.value (sym w.starts_with.ensures.value ∙ w.if-starts_with.false))
      | else-loop-self-test w ↦ inl (omega arith)
    ] in
    mark_absent (g.F.Files.rest c.args.files.now) (g.F.Files.rest c.loop-self.files) piece.start piece.end piece.buf.items held
    c.starts_with-binary.result c.loop-self.invariant.taken (subst P c.deref-2.ensures.value c.starts_with-binary.ensures.value) c.if-binary.false
    differs c.loop-self.invariant.start refl
