use Rattle.finalizer_order.proofs.QueueLaws.{flush_view}
use Rattle.finalizer_order.proofs.ChooseSteps.{on_ok-both}
use Rattle.finalizer_order.proofs.Finals.flush.Goals as goal

pub returns-clause-flushed : goal.returns-clause-flushed
returns-clause-flushed c = on_ok-both c.queue_all.result
    (λ queued none. flush_view c.self.inside.queues.items c.queue_all.new.queues.items c.self.inside.registered.items c.self.inside.chosen.items c.queue_all.new.chosen.items c.args.self.now c.self.view_is c.self.invariant.chosen_in queued none)
    c.queue_all.ensures.queues c.queue_all.ensures.chosen
