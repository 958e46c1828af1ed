use Rattle.heap_core.proofs.StructCalls.{count_does}
use Rattle.type_table.specs.Table.{value_at}
use Rattle.heap_core.proofs.StructReady.{is_there, count_ready}
use Rattle.heap_core.proofs.structures.tell_count.Goals as goal

pub count-requires : goal.count-requires
count-requires c =
    let now = c.args.parts.now in let found = count_ready now c.args.number c.requires in is_there (value_at now.links.structs c.args.number) found.0 found.1

pub returns : goal.returns
returns c = count_does c.args.parts.now c.args.number c.count.result c.count.ensures
