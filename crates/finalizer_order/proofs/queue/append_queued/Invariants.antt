use Rattle.std.proofs.Common.{◌≡◌, ◌++◌, take}
use Rattle.finalizer_order.specs.Finalizers.{places_of}
use Rattle.finalizer_order.specs.Queues.{joined}
use Rattle.finalizer_order.proofs.queue.append_queued.Given as goal

abbrev pub invariant-loop-queue : goal.invariant-loop-queue
invariant-loop-queue l = l.places.items ≡ l.fn.places.items ++ places_of (joined (take l.queue-index l.queues))
