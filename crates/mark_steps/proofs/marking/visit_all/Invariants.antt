use Rattle.std.proofs.Common.{◌+◌, length}
use Rattle.mark_steps.proofs.MarkLoop.{IsMarking}
use Rattle.mark_steps.proofs.marking.visit_all.Given as goal

abbrev pub invariant-loop-a : goal.invariant-loop-a
invariant-loop-a l =
    IsMarking l.types l.nursery.words l.budget l.initial.space l.initial.places.items l.initial.visited.items l.space l.places.items l.visited.items l.left

abbrev pub decreases-loop-a : goal.decreases-loop-a
decreases-loop-a l = l.left + length l.places.items
