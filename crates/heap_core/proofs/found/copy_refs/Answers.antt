use Rattle.heap_parts.specs.contracts.parts.Parts.{the_view}
use Rattle.heap_core.proofs.FoundCalls.{open-view}
use Rattle.heap_core.proofs.found.copy_refs.Goals as goal

pub move_refs-requires-clause-target : goal.move_refs-requires-clause-target
move_refs-requires-clause-target c =
    open-view c.args.parts.now (the_view c.parts.inside) c.args.to c.parts.view_is c.arena_words-ordered.ensures.ordered c.requires.to

pub move_refs-requires-clause-source : goal.move_refs-requires-clause-source
move_refs-requires-clause-source c =
    open-view c.args.parts.now (the_view c.parts.inside) c.args.from c.parts.view_is c.arena_words-ordered.ensures.ordered c.requires.from
