use Rattle.std.proofs.Common.{sym, subst, arith}
use Rattle.heap_parts.specs.Parts.{HeapParts}
use Rattle.minor_collect.specs.Calls.{Followed}
use Rattle.minor_collect.proofs.MoveOutLaws.{moved_out, no_link_moved, can_relocate, can_count, waits_for}
use Rattle.minor_collect.proofs.moves.move_out.Goals as goal

pub size_of-n-requires : goal.size_of-n-requires
size_of-n-requires c = (can_count c.args.parts.now c.args.moving.now c.args.p c.requires).object

pub relocate-requires : goal.relocate-requires
relocate-requires c = can_relocate c.args.parts.now c.args.moving.now c.args.p c.size_of-n.result c.requires c.size_of-n.ensures

pub relink-requires : goal.relink-requires
relink-requires c =
    let r = c.requires in
    no_link_moved c.args.parts.now c.relocate.new.parts c.args.moving.now c.args.p c.size_of-n.result c.in_ok-a.a r
    (c.in_ok-a.ensures r.stage r.spot r.standing.middle (waits_for c.args.p c.size_of-n.result r.standing r.there r.waits r.may c.size_of-n.ensures))

pub note-requires-clause-objects : goal.note-requires-clause-objects
note-requires-clause-objects c = (can_count c.args.parts.now c.args.moving.now c.args.p c.requires).objects

pub note-requires-clause-words : goal.note-requires-clause-words
note-requires-clause-words c = let few = (can_count c.args.parts.now c.args.moving.now c.args.p c.requires).words in omega (arith, few, c.size_of-n.ensures)

pub returns : goal.returns
returns c = λ stage spot standing there waits may.
    let w = waits_for c.args.p c.size_of-n.result standing there waits may c.size_of-n.ensures in
    let m = c.in_ok-a.ensures stage spot standing.middle w in
    subst (λ (h : HeapParts). Followed stage c.args.parts.now h c.args.moving.now c.note.new.self spot c.args.p c.in_ok-a.a) (sym c.in_ok-relink.ensures)
    (moved_out standing w m c.in_ok-note.ensures.todo c.in_ok-note.ensures.objects c.in_ok-note.ensures.words)
