use Rattle.minor_collect.proofs.OnOkLaws.{on_ok}
use Rattle.minor_collect.proofs.QueueSteps.{can_queue_ordered, queues_ordered}
use Rattle.minor_collect.proofs.collection.queue_in_order.Goals as goal

pub queue_written-requires : goal.queue_written-requires
queue_written-requires c = can_queue_ordered c.args.parts.now _ _ c.order_spans.ensures c.requires

pub returns : goal.returns
returns c = on_ok c.queue_written.result (queues_ordered c.args.parts.now c.queue_written.new.parts _ _ c.order_spans.ensures) c.queue_written.ensures
