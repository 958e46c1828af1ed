use Rattle.heap_parts.specs.contracts.parts.Parts.{the_view}
use Rattle.heap_core.proofs.FoundCalls.{open-view, ref-inside}
use Rattle.heap_core.proofs.found.write_ref.Goals as goal

pub set_ref-requires-clause-whole : goal.set_ref-requires-clause-whole
set_ref-requires-clause-whole c =
    open-view c.args.parts.now (the_view c.parts.inside) c.args.found c.parts.view_is c.arena_words-ordered.ensures.ordered c.requires.seen

pub set_ref-requires-clause-item : goal.set_ref-requires-clause-item
set_ref-requires-clause-item c =
    ref-inside (the_view c.parts.inside).memory c.args.found c.args.item
    (open-view c.args.parts.now (the_view c.parts.inside) c.args.found c.parts.view_is c.arena_words-ordered.ensures.ordered c.requires.seen) c.requires.item
