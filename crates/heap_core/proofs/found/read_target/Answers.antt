use Rattle.std.proofs.Common.{◌+◌, ◌<◌, ◌≡◌, arith}
use Rattle.heap_parts.specs.contracts.parts.Parts.{the_view}
use Rattle.heap_core.proofs.FoundCalls.{open-view}
use Rattle.heap_core.proofs.found.read_target.Goals as goal

pub ref_at-requires-clause-whole : goal.ref_at-requires-clause-whole
ref_at-requires-clause-whole c =
    open-view c.args.parts.now (the_view c.parts.inside) c.args.found c.parts.view_is c.arena_words-ordered.ensures.ordered c.requires.seen

pub ref_at-requires-clause-item : goal.ref_at-requires-clause-item
ref_at-requires-clause-item c = omega (arith, c.requires.target)
