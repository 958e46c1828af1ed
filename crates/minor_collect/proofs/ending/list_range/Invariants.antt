use Rattle.std.proofs.Common.{◌-◌}
use Rattle.minor_collect.proofs.WalkSteps.{WalksTo}
use Rattle.minor_collect.proofs.ending.list_range.Given as goal

abbrev pub invariant-loop-p : goal.invariant-loop-p
invariant-loop-p l = WalksTo l.parts l.from l.end l.p l.fn.dead.items l.dead.items

abbrev pub decreases-loop-p : goal.decreases-loop-p
decreases-loop-p l = l.end - l.p
