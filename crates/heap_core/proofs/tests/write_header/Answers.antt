use Rattle.heap_parts.specs.contracts.parts.Parts.{the_view}
use Rattle.heap_core.proofs.WordCalls.{seen_first}
use Rattle.heap_core.proofs.tests.write_header.Goals as goal

pub write-requires : goal.write-requires
write-requires c = seen_first c.args.parts.now (the_view c.parts.inside) c.place-place.result c.args.root c.parts.view_is c.place-place.ensures c.requires
