use Rattle.heap_parts.specs.contracts.parts.Parts.{the_view}
use Rattle.heap_core.proofs.FoundCalls.{open-view, ref-inside}
use Rattle.heap_core.proofs.found.read_ref.Goals as goal

pub ref_at-requires-clause-whole : goal.ref_at-requires-clause-whole
ref_at-requires-clause-whole c =
    open-view c.args.parts.now (the_view c.parts.inside) c.args.found c.parts.view_is c.arena_words-ordered.ensures.ordered c.requires.seen

pub ref_at-requires-clause-item : goal.ref_at-requires-clause-item
ref_at-requires-clause-item c =
    ref-inside (the_view c.parts.inside).memory c.args.found c.args.item
    (open-view c.args.parts.now (the_view c.parts.inside) c.args.found c.parts.view_is c.arena_words-ordered.ensures.ordered c.requires.seen) c.requires.item
