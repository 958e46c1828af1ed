use Rattle.std.proofs.Common.{◌∙◌}
use Rattle.heap_parts.specs.contracts.parts.Parts.{the_view}
use Rattle.heap_phases.proofs.StartCalls.{can_queue, none_chosen_scanning, roots_queued, start_major}
use Rattle.heap_phases.proofs.roots.start.Goals as goal

pub queue_roots-requires : goal.queue_roots-requires
queue_roots-requires c = can_queue c.args.parts.now c.requires.can.store c.requires.can.collected.stands (none_chosen_scanning c.args.parts.now c.requires.can.store c.requires.can.collected.stands c.requires.phase)

pub returns-clause-steps : goal.returns-clause-steps
returns-clause-steps c =
    start_major c.args.parts.now (the_view c.parts.inside) c.args.events.now.items c.push.new.self.items c.requires.can c.requires.phase
    (c.parts.view_is ∙ c.in_ok-queue_roots.ensures) c.in_ok-push.ensures.items

pub returns-clause-queued : goal.returns-clause-queued
returns-clause-queued c =
    roots_queued c.args.parts.now (the_view c.parts.inside) c.requires.can c.requires.phase (c.parts.view_is ∙ c.in_ok-queue_roots.ensures)
