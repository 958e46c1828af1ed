use Rattle.std.proofs.Common.{sym, ◌∙◌}
use Rattle.heap_core.proofs.RoomBirths.{may_in_room, known_in_room, born_in_room, fault_in_room, led_by_room}
use Rattle.heap_core.proofs.births.bear_in_room.Goals as goal

pub returns-in-Err : goal.returns-in-Err
returns-in-Err c =
    fault_in_room c.args.parts.now c.make_room.new.parts c.args.out.now.items c.make_room.new.out.items c.args.root c.args.type_id c.args.items c.words.result c.in-Some.info c.in-Err.fault
    (sym c.requires.found ∙ c.in-Some.is) c.words.ensures c.in-Err.ensures

pub bear-requires-clause-may : goal.bear-requires-clause-may
bear-requires-clause-may c =
    may_in_room c.args.root c.args.type_id c.args.items c.words.result c.in-Some.info c.requires.may (sym c.requires.found ∙ c.in-Some.is) c.words.ensures c.in-Ok.ensures

pub bear-requires-clause-known : goal.bear-requires-clause-known
bear-requires-clause-known c = known_in_room c.args.type_id c.words.result c.in-Some.info (sym c.requires.found ∙ c.in-Some.is) c.in-Ok.ensures

pub returns-in-Ok-bear : goal.returns-in-Ok-bear
returns-in-Ok-bear c =
    born_in_room c.args.root c.args.type_id c.args.items c.words.result c.in-Some.info (sym c.requires.found ∙ c.in-Some.is) c.words.ensures c.in-Ok.ensures c.in-Ok-bear.ensures.bears

pub returns-in-Err-bear : goal.returns-in-Err-bear
returns-in-Err-bear c = led_by_room c.words.result c.in-Ok.ensures c.in-Err-bear.ensures.err c.in-Err-bear.ensures.err_out
