use Rattle.heap_core.proofs.BearLaws.{fixed_may}
use Rattle.heap_core.proofs.RoomBirths.{fixed_ends}
use Rattle.heap_core.proofs.births.bear_fixed.Goals as goal

pub bear_in_room-requires-clause-may : goal.bear_in_room-requires-clause-may
bear_in_room-requires-clause-may c = fixed_may c.args.parts.now c.args.root c.args.type_id c.requires.ready

pub returns : goal.returns
returns c = fixed_ends c.args.parts.now c.bear_in_room.new.parts c.args.out.now.items c.bear_in_room.new.out.items c.args.root c.args.type_id c.bear_in_room.result c.bear_in_room.ensures
