use Rattle.minor_collect.proofs.QueueSteps.{queue_head}
use Rattle.minor_collect.proofs.ending.queue_span.Goals as goal

pub is_visited-requires : goal.is_visited-requires
is_visited-requires c = queue_head c.args.parts.now c.args.span.a c.requires
