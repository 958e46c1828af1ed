use Rattle.std.proofs.Common.{◌+◌, ◌-◌, length}
use Rattle.minor_collect.proofs.OpenLaws.{DrainsTo}
use Rattle.minor_collect.proofs.items.drain.Given as goal

abbrev pub invariant-loop-p : goal.invariant-loop-p
invariant-loop-p l = DrainsTo l.fn.parts l.parts l.fn.moving l.moving

abbrev pub decreases-loop-p : goal.decreases-loop-p
decreases-loop-p l = (l.fn.parts.unsettled - l.moving.words) + length l.moving.todo.items
