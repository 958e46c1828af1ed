use Rattle.std.proofs.Common.{[], IfOk, subst}
use Rattle.minor_collect.specs.Calls.{Stage, Spot, Middle, TookRoom}
use Rattle.heap_parts.specs.Parts.{HeapParts}
use Rattle.heap_parts.specs.Births.{with_old_blocks}
use Rattle.heap_parts.specs.contracts.parts.Parts.{the_view}
use Rattle.minor_collect.proofs.TakeRoom.{take_room_ok}
use Rattle.minor_collect.proofs.moves.take_room.Goals as goal

pub returns : goal.returns
returns c =
    let e = c.take.ensures in let before : HeapParts = the_view c.parts.inside in
    subst (λ (now : HeapParts). (stage : Stage) (spot : Spot) → Middle stage now spot [] → IfOk c.take.result (λ a. TookRoom stage now (with_old_blocks before c.take.new.self c.take.new.space) spot c.args.n a)) c.parts.view_is
    (take_room_ok before c.take.new.space c.take.new.self c.args.n c.take.result e.taken e.kept e.outside (record { arena = e.arena_words; page = e.sizes.page; small = e.sizes.small }))
