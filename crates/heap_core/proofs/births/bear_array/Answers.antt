use Rattle.heap_core.proofs.BearLaws.{array_may}
use Rattle.heap_core.proofs.RoomBirths.{array_ends}
use Rattle.heap_core.proofs.births.bear_array.Goals as goal

pub bear_in_room-requires-clause-may : goal.bear_in_room-requires-clause-may
bear_in_room-requires-clause-may c = array_may c.args.parts.now c.args.root c.args.type_id c.args.len c.requires.ready

pub returns : goal.returns
returns c = array_ends c.args.parts.now c.bear_in_room.new.parts c.args.out.now.items c.bear_in_room.new.out.items c.args.root c.args.type_id c.args.len c.bear_in_room.result c.bear_in_room.ensures
