use Rattle.heap_parts.specs.contracts.parts.Parts.{the_view}
use Rattle.heap_core.proofs.FoundCalls.{open-view}
use Rattle.heap_core.proofs.found.write_int.Goals as goal

pub set_int-requires-clause-whole : goal.set_int-requires-clause-whole
set_int-requires-clause-whole c =
    open-view c.args.parts.now (the_view c.parts.inside) c.args.found c.parts.view_is c.arena_words-ordered.ensures.ordered c.requires.seen
