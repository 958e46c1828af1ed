use Rattle.minor_collect.proofs.SlotSteps.{SlotsTo}
use Rattle.minor_collect.proofs.roots.follow_slots.Given as goal

abbrev pub invariant-loop-root : goal.invariant-loop-root
invariant-loop-root l = SlotsTo l.fn.parts l.parts l.fn.moving l.moving l.root
