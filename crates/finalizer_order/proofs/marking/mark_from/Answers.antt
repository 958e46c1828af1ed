use Rattle.std.proofs.Common.{[], ◌<◌, ◌≤◌, length, ◌∙◌, arith}
use Rattle.object_model.proofs.Members.{is_in-head}
use Rattle.std.proofs.lemmas.List.{get_or_default}
use Rattle.finalizer_order.proofs.Objects.{has-place}
use Rattle.finalizer_order.proofs.MeetSteps.{marks_begin, next-behind, next-whole, marks_next, marks_smaller, marks_from}
use Rattle.finalizer_order.proofs.marking.mark_from.Goals as goal

pub meet-requires : goal.meet-requires
meet-requires c = λ out. has-place c.requires.whole c.args.place (c.requires.whole.started c.args.place (is_in-head c.args.place []) out)

pub loop-next-init : goal.loop-next-init
loop-next-init c = marks_begin c.args.flag c.args.types.now c.args.nursery.now.words c.args.space.now c.meet.new.space c.args.place c.len-next.result c.args.marked.now.items c.meet.new.marked.items
    (omega (arith, c.len-next.ensures, c.args.marked.now.ok))
    (λ out. has-place c.requires.whole c.args.place (c.requires.whole.started c.args.place (is_in-head c.args.place []) out))
    c.in_ok-meet.ensures.listed c.in_ok-meet.ensures.marked

pub meet_refs-requires-clause-whole : goal.meet_refs-requires-clause-whole
meet_refs-requires-clause-whole c =
    let l : c.loop-next.next < length c.loop-next.marked.items = omega (arith, c.loop-next-test.true, c.len.ensures, c.loop-next.marked.ok) in
    next-whole c.requires.whole c.requires.flag c.loop-next.invariant c.index.result.now l
    (c.index.ensures ∙ get_or_default c.loop-next.marked.items c.loop-next.next c.index.result.now 0 l)

pub meet_refs-requires-clause-outside : goal.meet_refs-requires-clause-outside
meet_refs-requires-clause-outside c =
    let l : c.loop-next.next < length c.loop-next.marked.items = omega (arith, c.loop-next-test.true, c.len.ensures, c.loop-next.marked.ok) in
    next-behind c.requires.whole c.requires.flag c.loop-next.invariant c.index.result.now l
    (c.index.ensures ∙ get_or_default c.loop-next.marked.items c.loop-next.next c.index.result.now 0 l)

pub loop-next-smaller : goal.loop-next-smaller
loop-next-smaller c =
    let l : c.loop-next.next < length c.loop-next.marked.items = omega (arith, c.loop-next-test.true, c.len.ensures, c.loop-next.marked.ok) in
    marks_smaller c.requires.whole c.requires.flag c.loop-next.space c.meet_refs.new.space c.loop-next.next c.index.result.now c.loop-next.marked.items c.meet_refs.new.marked.items l c.in_ok-meet_refs.ensures

pub loop-next-preserved : goal.loop-next-preserved
loop-next-preserved c =
    let l : c.loop-next.next < length c.loop-next.marked.items = omega (arith, c.loop-next-test.true, c.len.ensures, c.loop-next.marked.ok) in
    marks_next c.requires.whole c.requires.flag c.loop-next.space c.meet_refs.new.space c.loop-next.next c.index.result.now c.args.marked.now.items c.loop-next.marked.items c.meet_refs.new.marked.items
    c.loop-next.invariant l (c.index.ensures ∙ get_or_default c.loop-next.marked.items c.loop-next.next c.index.result.now 0 l) c.in_ok-meet_refs.ensures

pub returns : goal.returns
returns c =
    let done : length c.loop-next.marked.items ≤ c.loop-next.next = omega (arith, c.loop-next-test.false, c.len.ensures, c.loop-next.marked.ok) in
    marks_from c.requires.whole c.requires.flag c.loop-next.space c.loop-next.next c.args.marked.now.items c.loop-next.marked.items c.loop-next.invariant done
