use Rattle.std.proofs.Common.{refl, sym, ap, ◌∙◌, arith}
use Rattle.std.specs.Prelude.{slice_get}
use Rattle.heap_parts.specs.Parts.{HeapParts}
use Rattle.minor_collect.proofs.WalkAllSteps.{range_can, range_below, walked_next, walked_end}
use Rattle.minor_collect.proofs.ending.list_dead.Goals as goal

pub list_range-requires : goal.list_range-requires
list_range-requires c = range_can c.args.parts.now c.loop-from.k c.in-Some.from c.in-Some.n (c.in-Some.from, c.in-Some.n) c.requires (ap (λ (h : HeapParts). slice_get h.nursery.used c.loop-from.k) (sym c.parts.view_is) ∙ (sym c.used_range.ensures ∙ c.in-Some.is)) refl refl

pub overflow_add-k : goal.overflow_add-k
overflow_add-k c =
    let below = range_below c.args.parts.now c.loop-from.k (c.in-Some.from, c.in-Some.n) (ap (λ (h : HeapParts). slice_get h.nursery.used c.loop-from.k) (sym c.parts.view_is) ∙ (sym c.used_range.ensures ∙ c.in-Some.is)) in
    let few = c.requires.few in omega (arith, below, few)

pub loop-from-smaller : goal.loop-from-smaller
loop-from-smaller c =
    let below = range_below c.args.parts.now c.loop-from.k (c.in-Some.from, c.in-Some.n) (ap (λ (h : HeapParts). slice_get h.nursery.used c.loop-from.k) (sym c.parts.view_is) ∙ (sym c.used_range.ensures ∙ c.in-Some.is)) in omega (arith, below)

pub loop-from-preserved : goal.loop-from-preserved
loop-from-preserved c = walked_next c.args.parts.now c.loop-from.k c.in-Some.from c.in-Some.n (c.in-Some.from, c.in-Some.n) c.args.dead.now.items c.loop-from.dead.items c.list_range.new.dead.items
    c.loop-from.invariant (ap (λ (h : HeapParts). slice_get h.nursery.used c.loop-from.k) (sym c.parts.view_is) ∙ (sym c.used_range.ensures ∙ c.in-Some.is)) refl refl c.in_ok-list_range.ensures

pub returns : goal.returns
returns c = λ walks w. walked_end c.args.parts.now c.loop-from.k c.args.dead.now.items c.loop-from.dead.items walks c.loop-from.invariant (ap (λ (h : HeapParts). slice_get h.nursery.used c.loop-from.k) (sym c.parts.view_is) ∙ (sym c.used_range.ensures ∙ c.in_default.is)) w
