use Rattle.heap_core.proofs.BearLaws.{nursery_room}
use Rattle.heap_core.proofs.births.try_young.Goals as goal

pub bear_young-requires-clause-room : goal.bear_young-requires-clause-room
bear_young-requires-clause-room c = nursery_room c.args.parts.now c.args.root c.args.type_id c.args.items c.args.info c.requires

pub returns-clause-full : goal.returns-clause-full
returns-clause-full c = λ f few place fits. c.bear_young.ensures.full f place fits
