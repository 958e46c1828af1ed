use Rattle.std.proofs.Common.{◌≡◌, ℕ, length, arith, ap, length-append}
use Rattle.sweep_steps.proofs.StepLaws.{swept-sorted}
use Rattle.sweep_steps.proofs.sweep.Goals as goal

pub sort_from-requires : goal.sort_from-requires
sort_from-requires g c =
    let steps = c.in_ok-sweep_units.ensures.steps in
    omega (arith, ap (length {A = ℕ}) steps.1, length-append c.args.freed.now.items steps.0, c.len-before.ensures)

pub returns-then-waiting-eq0-clause-swept : goal.returns-then-waiting-eq0-clause-swept
returns-then-waiting-eq0-clause-swept g c =
    let size : length c.args.freed.now.items ≡ c.len-before.result = omega (arith, c.len-before.ensures) in
    let steps = c.in_ok-sweep_units.ensures.steps in
    let end = c.sort_from.ensures in
    swept-sorted _ _ _ _ _ _ _ _ _ steps.0 _ size steps.2 steps.1 end.front end.same end.rising

pub returns-else-waiting-eq0-clause-swept : goal.returns-else-waiting-eq0-clause-swept
returns-else-waiting-eq0-clause-swept g c =
    let size : length c.args.freed.now.items ≡ c.len-before.result = omega (arith, c.len-before.ensures) in
    let steps = c.in_ok-sweep_units.ensures.steps in
    let end = c.sort_from.ensures in
    swept-sorted _ _ _ _ _ _ _ _ _ steps.0 _ size steps.2 steps.1 end.front end.same end.rising
