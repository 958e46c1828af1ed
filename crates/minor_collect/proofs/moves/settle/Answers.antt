use Rattle.std.proofs.Common.{[], ◌∷◌, subst, sym}
use Rattle.heap_space.specs.Memory.{Memory}
use Rattle.heap_parts.specs.Parts.{HeapParts}
use Rattle.heap_parts.specs.contracts.parts.Parts.{the_view}
use Rattle.minor_collect.specs.Calls.{Settled, settled_memory}
use Rattle.minor_collect.proofs.SettleLaws.{CanMoveWords, can_move_words, room_taken, settle_moves}
use Rattle.minor_collect.proofs.moves.settle.Goals as goal

pub settled_header-head-requires-clause-object : goal.settled_header-head-requires-clause-object
settled_header-head-requires-clause-object c =
    let r = c.requires.waits in (can_move_words r.stage c.args.parts.now r.spot _ c.args.p c.args.n c.args.a _ r.middle (room_taken r.stage c.args.parts.now r.spot c.args.p c.args.n c.args.a r.middle r.waits c.requires.homeless) r.waits).object

pub settled_header-head-requires-clause-words : goal.settled_header-head-requires-clause-words
settled_header-head-requires-clause-words c =
    let r = c.requires.waits in (can_move_words r.stage c.args.parts.now r.spot _ c.args.p c.args.n c.args.a _ r.middle (room_taken r.stage c.args.parts.now r.spot c.args.p c.args.n c.args.a r.middle r.waits c.requires.homeless) r.waits).size

pub settled_header-head-requires-clause-block : goal.settled_header-head-requires-clause-block
settled_header-head-requires-clause-block c =
    let r = c.requires.waits in (can_move_words r.stage c.args.parts.now r.spot _ c.args.p c.args.n c.args.a _ r.middle (room_taken r.stage c.args.parts.now r.spot c.args.p c.args.n c.args.a r.middle r.waits c.requires.homeless) r.waits).block

pub move_words-requires-clause-source : goal.move_words-requires-clause-source
move_words-requires-clause-source c =
    let r = c.requires.waits in (subst (λ (now : HeapParts). CanMoveWords r.stage now c.args.p c.args.n c.args.a) (sym c.parts.view_is) (can_move_words r.stage c.args.parts.now r.spot _ c.args.p c.args.n c.args.a _ r.middle (room_taken r.stage c.args.parts.now r.spot c.args.p c.args.n c.args.a r.middle r.waits c.requires.homeless) r.waits)).source

pub move_words-requires-clause-target : goal.move_words-requires-clause-target
move_words-requires-clause-target c =
    let r = c.requires.waits in (subst (λ (now : HeapParts). CanMoveWords r.stage now c.args.p c.args.n c.args.a) (sym c.parts.view_is) (can_move_words r.stage c.args.parts.now r.spot _ c.args.p c.args.n c.args.a _ r.middle (room_taken r.stage c.args.parts.now r.spot c.args.p c.args.n c.args.a r.middle r.waits c.requires.homeless) r.waits)).target

pub move_words-requires-clause-apart : goal.move_words-requires-clause-apart
move_words-requires-clause-apart c =
    let r = c.requires.waits in (can_move_words r.stage c.args.parts.now r.spot _ c.args.p c.args.n c.args.a _ r.middle (room_taken r.stage c.args.parts.now r.spot c.args.p c.args.n c.args.a r.middle r.waits c.requires.homeless) r.waits).apart

pub move_words-requires-clause-n : goal.move_words-requires-clause-n
move_words-requires-clause-n c =
    let r = c.requires.waits in (can_move_words r.stage c.args.parts.now r.spot _ c.args.p c.args.n c.args.a _ r.middle (room_taken r.stage c.args.parts.now r.spot c.args.p c.args.n c.args.a r.middle r.waits c.requires.homeless) r.waits).wide

pub returns : goal.returns
returns c =
    let before : HeapParts = the_view c.parts.inside in
    λ stage spot middle waits.
    let room = room_taken stage c.args.parts.now spot c.args.p c.args.n c.args.a middle waits c.requires.homeless in
    let moved = settle_moves stage c.args.parts.now spot ((c.args.a, c.args.n) ∷ []) c.args.p c.args.n c.args.a c.settled_header-head.result c.args.parts.now.shadows middle room waits
    (c.settled_header-head.ensures _ spot.placing.waiting middle.mid.blocks) in
    subst (λ (m : Memory). Settled stage c.args.parts.now (record before { memory = m }) spot c.args.p c.args.n c.args.a) (sym c.move_words.ensures)
    (subst (λ (h : HeapParts). Settled stage c.args.parts.now (record h { memory = settled_memory h.memory c.args.p c.args.n c.args.a c.settled_header-head.result }) spot c.args.p c.args.n c.args.a) (sym c.parts.view_is) moved)
