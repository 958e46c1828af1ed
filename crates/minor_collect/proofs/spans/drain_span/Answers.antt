use Rattle.minor_collect.proofs.OnOkLaws.{on_ok}
use Rattle.minor_collect.proofs.DrainSteps.{can_drain_items, span_drained}
use Rattle.minor_collect.proofs.spans.drain_span.Goals as goal

pub follow_items-requires : goal.follow_items-requires
follow_items-requires c = can_drain_items c.args.parts.now c.args.moving.now c.args.span c.requires

pub returns : goal.returns
returns c = λ stage spot standing may. on_ok c.follow_items.result (span_drained c.args.span) (c.follow_items.ensures stage spot standing may.there may.may)
