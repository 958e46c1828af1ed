use Rattle.std.proofs.Common.{List, ℕ, [], ◌∷◌, ◌++◌, take, ap, ◌∙◌, append_assoc}
use Rattle.text_model.specs.ItemText.{decimals}
use Rattle.script_text.specs.Printing.{spaced}
use Rattle.script_text.proofs.Spaced.{spaced_more, kept}
use Rattle.script_text.proofs.print.print_numbers.Goals as goal

pub returns-in_err-extend_from_slice-clause-err : goal.returns-in_err-extend_from_slice-clause-err
returns-in_err-extend_from_slice-clause-err c =
    kept c.from_residual.result c.args.out.now.items c.extend_from_slice.new.self.items (spaced (decimals (take c.loop-number.number-index c.args.numbers.now)))
    (c.in_err-extend_from_slice.ensures.items ∙ c.loop-number.invariant)

pub returns-in_err-extend_from_slice-2-clause-err : goal.returns-in_err-extend_from_slice-2-clause-err
returns-in_err-extend_from_slice-2-clause-err c =
    let printed = spaced (decimals (take c.loop-number.number-index c.args.numbers.now)) in
    kept c.from_residual-in_err-extend_from_slice-2.result c.args.out.now.items c.extend_from_slice-in-loop-number.new.self.items (printed ++ 32 ∷ [])
    (c.in_err-extend_from_slice-2.ensures.items
    ∙ c.in_ok-extend_from_slice.ensures.items
    ∙ ap (λ (l : List ℕ). l ++ 32 ∷ []) c.loop-number.invariant
    ∙ append_assoc c.args.out.now.items printed (32 ∷ []))

pub loop-number-preserved : goal.loop-number-preserved
loop-number-preserved c =
    spaced_more c.args.out.now.items c.loop-number.out.items c.extend_from_slice.new.self.items c.extend_from_slice-in-loop-number.new.self.items
    c.args.numbers.now c.loop-number.number-index c.loop-number-test.true c.loop-number.invariant c.in_ok-extend_from_slice.ensures.items
    (c.in_ok-extend_from_slice-2.ensures.items ∙ ap (λ (l : List ℕ). c.extend_from_slice.new.self.items ++ l) (c.as_bytes.ensures.value ∙ c.format.ensures.text))
