use Rattle.std.proofs.Common.{◌-◌, length}
use Rattle.minor_collect.proofs.WalkAllSteps.{WalkedTo}
use Rattle.minor_collect.proofs.ending.list_dead.Given as goal

abbrev pub invariant-loop-from : goal.invariant-loop-from
invariant-loop-from l = WalkedTo l.parts l.k l.fn.dead.items l.dead.items

abbrev pub decreases-loop-from : goal.decreases-loop-from
decreases-loop-from l = length l.parts.nursery.used - l.k
