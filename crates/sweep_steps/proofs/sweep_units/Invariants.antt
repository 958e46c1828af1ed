use Rattle.std.proofs.Common.{◌≡◌, ℕ, ◌+◌, ◌++◌, List}
use Rattle.sweep_steps.specs.Steps.{Sweeps}
use Rattle.sweep_steps.proofs.sweep_units.Given as goal

abbrev pub invariant-loop-i : goal.invariant-loop-i
invariant-loop-i g l = record {
  stands : g.S.Sweeper.stands l.s l.space;
  left : g.S.Sweeper.left l.s + l.i ≡ g.S.Sweeper.left l.initial.s;
  births : List ℕ;
  freed : l.freed.items ≡ l.initial.freed.items ++ births;
  steps : Sweeps g.S.Sweeper.steps l.i l.initial.s l.initial.space l.s l.space births;
}
