use Rattle.heap_parts.proofs.BirthCalls.{tracked-header, carded-header}
use Rattle.heap_parts.proofs.newborns.old_header.Goals as goal

pub returns-then-cards-clause-header : goal.returns-then-cards-clause-header
returns-then-cards-clause-header c =
    carded-header c.set-tracked.result c.set.result (tracked-header c.args.type_id c.from.result c.set-tracked.result c.ranges.type_id.fits c.from.ensures c.set-tracked.ensures) c.set.ensures

pub returns-clause-header : goal.returns-clause-header
returns-clause-header c = tracked-header c.args.type_id c.from.result c.set-tracked.result c.ranges.type_id.fits c.from.ensures c.set-tracked.ensures
