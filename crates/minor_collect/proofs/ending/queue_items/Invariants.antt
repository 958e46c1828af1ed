use Rattle.minor_collect.proofs.QueueSteps.{QueuesItems}
use Rattle.minor_collect.proofs.ending.queue_items.Given as goal

abbrev pub invariant-loop-i : goal.invariant-loop-i
invariant-loop-i l = QueuesItems l.fn.parts l.parts l.span l.i
