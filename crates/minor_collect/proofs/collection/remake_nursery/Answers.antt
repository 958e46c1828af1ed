use Rattle.std.proofs.Common.{◌+◌, List, length, sym, ap, ◌∙◌, subst}
use Rattle.std.specs.Prelude.{not, ◌==◌}
use Rattle.nursery_gaps.specs.Ranges.{Range, AreRising}
use Rattle.heap_parts.specs.Parts.{HeapParts}
use Rattle.heap_parts.specs.contracts.parts.Parts.{the_view}
use Rattle.minor_collect.proofs.PinnedLaws.{pinned_rising, remade}
use Rattle.minor_collect.proofs.collection.remake_nursery.Goals as goal

pub reset-requires-clause-rising : goal.reset-requires-clause-rising
reset-requires-clause-rising c =
    subst (AreRising 1 (c.parts.inside.nursery.words + 1)) (sym c.deref.ensures.value)
    (subst (λ (h : HeapParts). AreRising 1 (h.nursery.words + 1) c.pinned_ranges.new.pinned.items) (sym c.parts.view_is) (pinned_rising c.requires.can c.in_ok-parts-inside.ensures))

pub returns : goal.returns
returns c =
    let before : HeapParts = the_view c.parts.inside in
    remade c.requires.can c.in_ok-parts-inside.ensures
    ((λ i. record before {
      nursery = (c.reset.ensures.reset ∙ ap (λ (ranges : List Range). record c.parts.inside.nursery { used = ranges; gap = 1; cursor = 1 }) c.deref.ensures.value) i;
      unsettled = c.in_ok-parts-inside.field-0;
      gapped = not (c.is_empty.ensures i);
    })
    ∙ ap (λ (h : HeapParts). record h {
      nursery = record h.nursery { used = c.pinned_ranges.new.pinned.items; gap = 1; cursor = 1 };
      unsettled = c.in_ok-parts-inside.field-0;
      gapped = not (length h.pins == 0);
    }) c.parts.view_is)
    c.reset.ensures.stands
