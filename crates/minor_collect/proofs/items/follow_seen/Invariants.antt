use Rattle.minor_collect.proofs.ItemsLaws.{FollowsTo}
use Rattle.minor_collect.proofs.items.follow_seen.Given as goal

abbrev pub invariant-loop-i : goal.invariant-loop-i
invariant-loop-i l = FollowsTo l.fn.parts l.parts l.fn.moving l.moving l.v l.p l.from l.to l.i
