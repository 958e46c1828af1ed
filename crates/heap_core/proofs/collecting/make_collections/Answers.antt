use Rattle.std.proofs.Common.{inl}
use Rattle.collect_laws.proofs.BlockLaws.{room_made}
use Rattle.heap_core.proofs.BearLaws.{on_ok, on_err}
use Rattle.heap_core.proofs.RoomCalls.{standing_after, collecting_behind}
use Rattle.heap_core.proofs.collecting.make_collections.Goals as goal

pub make_limit_room-requires-clause-standing : goal.make_limit_room-requires-clause-standing
make_limit_room-requires-clause-standing c = standing_after c.in_ok-make_nursery_room.ensures.makes c.requires.standing

pub returns-in_err-make_nursery_room-clause-due : goal.returns-in_err-make_nursery_room-clause-due
returns-in_err-make_nursery_room-clause-due c = on_err c.from_residual.result (inl c.in_err-make_nursery_room.ensures.due)

pub returns-clause-makes : goal.returns-clause-makes
returns-clause-makes c = on_ok c.make_limit_room.result (λ second. room_made c.args.words c.in_ok-make_nursery_room.ensures.makes second) c.make_limit_room.ensures.makes

pub returns-clause-due : goal.returns-clause-due
returns-clause-due c =
    collecting_behind c.args.parts.now c.make_nursery_room.new.parts c.args.words c.make_limit_room.result c.in_ok-make_nursery_room.ensures.same c.make_limit_room.ensures.due
