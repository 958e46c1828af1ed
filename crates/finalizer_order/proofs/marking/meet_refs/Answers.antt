use Rattle.std.proofs.Common.{◌≡◌, ◌+◌, ◌<◌, ap, ◌∙◌, subst, arith}
use Rattle.heap_space.specs.Places.{word_at}
use Rattle.object_model.specs.ObjectWords.{layout_at}
use Rattle.object_view.specs.declared.fields.ObjView.{ObjView}
use Rattle.finalizer_order.proofs.MeetSteps.{meets_none, view_stays, ref-has, meets_next, meets_refs}
use Rattle.finalizer_order.proofs.marking.meet_refs.Goals as goal

pub loop-i-init : goal.loop-i-init
loop-i-init c = meets_none c.args.flag c.args.types.now c.args.nursery.now.words c.args.space.now c.args.place c.args.marked.now.items

pub ref_at-referent-requires-clause-whole : goal.ref_at-referent-requires-clause-whole
ref_at-referent-requires-clause-whole c = view_stays c.requires.whole c.requires.outside c.requires.flag c.view-object.result c.loop-i.invariant c.view-object.ensures.whole

pub meet-requires : goal.meet-requires
meet-requires c = λ out. ref-has c.requires.whole c.requires.outside c.requires.flag c.loop-i.invariant c.loop-i.i c.ref_at-referent.result
    (subst (λ (v : ObjView). c.loop-i.i < v.ref_count) c.view-object.ensures.value c.loop-i-test.true)
    (c.ref_at-referent.ensures ∙ ap (λ (v : ObjView). word_at c.loop-i.space.blocks (v.ref_start + c.loop-i.i)) c.view-object.ensures.value) out

pub loop-i-preserved : goal.loop-i-preserved
loop-i-preserved c = meets_next c.requires.whole c.requires.outside c.requires.flag c.loop-i.space c.meet.new.space c.loop-i.i c.ref_at-referent.result
    c.args.marked.now.items c.loop-i.marked.items c.meet.new.marked.items c.loop-i.invariant
    (subst (λ (v : ObjView). c.loop-i.i < v.ref_count) c.view-object.ensures.value c.loop-i-test.true)
    (c.ref_at-referent.ensures ∙ ap (λ (v : ObjView). word_at c.loop-i.space.blocks (v.ref_start + c.loop-i.i)) c.view-object.ensures.value)
    c.in_ok-meet.ensures.listed c.in_ok-meet.ensures.marked

pub returns : goal.returns
returns c = meets_refs c.requires.whole c.requires.outside c.requires.flag c.loop-i.space c.args.marked.now.items c.loop-i.marked.items c.loop-i.i
    (let e : c.view-object.result.ref_count ≡ (layout_at c.args.types.now (word_at c.args.space.now.blocks) c.args.place).ref_count = ap (λ (v : ObjView). v.ref_count) c.view-object.ensures.value in
    omega (arith, e, c.loop-i-test.false, c.loop-i.auto.i-end)) c.loop-i.invariant
