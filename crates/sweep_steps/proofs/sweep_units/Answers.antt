use Rattle.std.proofs.Common.{ℕ, ◌++◌, List, [], arith, ap, sym, ◌∙◌, subst, append_assoc, append-nil}
use Rattle.sweep_steps.specs.Steps.{Sweeps, Done, Then}
use Rattle.sweep_steps.proofs.sweep_units.Goals as goal

pub loop-i-init : goal.loop-i-init
loop-i-init g c =
    record { stands = c.requires; left = omega arith; births = []; freed = sym (append-nil c.args.freed.now.items); steps = Done }

pub loop-i-preserved : goal.loop-i-preserved
loop-i-preserved g c =
    let step = c.in_ok-sweep_one.ensures.step in
    let old = c.loop-i.invariant in
    let Steps : ℕ → Type 0 = λ n. Sweeps g.S.Sweeper.steps n c.args.s.now c.args.space.now c.sweep_one.new.self c.sweep_one.new.space (old.births ++ step.0) in
    record {
      stands = c.in_ok-sweep_one.ensures.stands;
      left = omega (arith, c.in_ok-sweep_one.ensures.less, old.left);
      births = old.births ++ step.0;
      freed = step.1 ∙ ap (λ (xs : List ℕ). xs ++ step.0) old.freed ∙ append_assoc c.args.freed.now.items old.births step.0;
      steps = subst Steps (omega arith) (Then {n = c.loop-i.i} old.steps step.2);
    }
