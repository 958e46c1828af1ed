use Rattle.std.proofs.Common.{vec_len}
use Rattle.finalizer_order.proofs.PassSteps.{SecondSome}
use Rattle.finalizer_order.proofs.passes.second_pass.Given as goal

abbrev pub invariant-loop-place : goal.invariant-loop-place
invariant-loop-place l = SecondSome l.types l.nursery.words l.fn.space l.space l.fn.candidates.items l.candidates.items l.again.items l.found.items

abbrev pub decreases-loop-place : goal.decreases-loop-place
decreases-loop-place l = vec_len l.candidates
