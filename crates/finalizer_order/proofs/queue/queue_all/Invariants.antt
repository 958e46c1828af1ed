use Rattle.std.proofs.Common.{vec_len}
use Rattle.finalizer_order.proofs.QueueSteps.{QueuesSome}
use Rattle.finalizer_order.proofs.queue.queue_all.Given as goal

abbrev pub invariant-loop-entry : goal.invariant-loop-entry
invariant-loop-entry l = QueuesSome l.fn.queues.items l.fn.chosen.items l.fn.queued.items l.queues.items l.chosen.items l.queued.items

abbrev pub decreases-loop-entry : goal.decreases-loop-entry
decreases-loop-entry l = vec_len l.chosen
