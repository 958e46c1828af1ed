use Rattle.std.proofs.Common.{Some, sym, ap, ◌∙◌}
use Rattle.text_model.specs.declared.command.Command.TheVariants.{NewWeak}
use Rattle.heap_core.proofs.RoomBirths.{may_be_weak, known_in_room, weak_ends, led_by_room, fault_ends}
use Rattle.collect_laws.proofs.CommandLaws.{weak_asks}
use Rattle.heap_core.proofs.weak.bear_weak.Goals as goal

pub returns-in-Err : goal.returns-in-Err
returns-in-Err c =
    fault_ends c.args.parts.now c.make_room.new.parts c.args.out.now.items c.make_room.new.out.items (NewWeak c.args.root c.args.type_id c.args.target) c.words.result c.in-Err.fault
    (weak_asks c.args.parts.now.setup c.args.root c.args.type_id c.args.target c.in-Some.info (sym c.requires.found ∙ c.in-Some.is) ∙ ap Some (sym c.words.ensures)) c.in-Err.ensures

pub bear_weak_in_room-requires-clause-may : goal.bear_weak_in_room-requires-clause-may
bear_weak_in_room-requires-clause-may c =
    may_be_weak c.args.root c.args.type_id c.args.target c.words.result c.in-Some.info c.requires.ready (sym c.requires.found ∙ c.in-Some.is) c.words.ensures c.in-Ok.ensures

pub bear_weak_in_room-requires-clause-known : goal.bear_weak_in_room-requires-clause-known
bear_weak_in_room-requires-clause-known c = known_in_room c.args.type_id c.words.result c.in-Some.info (sym c.requires.found ∙ c.in-Some.is) c.in-Ok.ensures

pub returns-in-Ok-bear_weak_in_room : goal.returns-in-Ok-bear_weak_in_room
returns-in-Ok-bear_weak_in_room c =
    weak_ends c.args.root c.args.type_id c.args.target c.words.result c.in-Some.info (sym c.requires.found ∙ c.in-Some.is) c.words.ensures c.in-Ok.ensures
    c.in-Ok-bear_weak_in_room.ensures.bears

pub returns-in-Err-bear_weak_in_room : goal.returns-in-Err-bear_weak_in_room
returns-in-Err-bear_weak_in_room c = led_by_room c.words.result c.in-Ok.ensures c.in-Err-bear_weak_in_room.ensures.err c.in-Err-bear_weak_in_room.ensures.err_out
