use Rattle.std.proofs.Common.{length}
use Rattle.text_model.specs.Generated.{generated_items}
use Rattle.replay_bench.proofs.SoFar.{IsDoneTo}
use Rattle.replay_bench.proofs.items.do_items.Given as goal

abbrev pub invariant-loop-item : goal.invariant-loop-item
invariant-loop-item l = IsDoneTo (generated_items l.start l.count) l.ahead l.tally l.session l.heap

abbrev pub decreases-loop-item : goal.decreases-loop-item
decreases-loop-item l = length l.ahead
