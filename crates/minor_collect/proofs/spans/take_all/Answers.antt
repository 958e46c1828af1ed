use Rattle.std.proofs.Common.{◌≡◌, [], OnOk, refl, sym, subst}
use Rattle.heap_parts.specs.Parts.{HeapParts}
use Rattle.heap_parts.specs.contracts.parts.Parts.{the_view}
use Rattle.minor_collect.specs.Spans.{CanTakeAll, TookAll, TakesSpans, with_remember}
use Rattle.minor_collect.proofs.OnOkLaws.{on_ok, both_ok}
use Rattle.minor_collect.proofs.SpanSteps.{can_take_spans, took_all}
use Rattle.minor_collect.proofs.spans.take_all.Goals as goal

pub take_spans-requires : goal.take_spans-requires
take_spans-requires c = record {
  take = can_take_spans (the_view c.parts.inside) c.parts.inside.space c.parts.inside.remember (subst CanTakeAll (sym c.parts.view_is) c.requires.take) refl refl;
  empty = c.requires.empty;
}

pub returns : goal.returns
returns c =
    let before : HeapParts = the_view c.parts.inside in
    subst (λ (now : HeapParts). OnOk c.take_spans.result (TookAll now (with_remember before c.take_spans.new.space c.take_spans.new.remember) c.take_spans.new.spans.items)) c.parts.view_is
    (on_ok c.take_spans.result (λ both. took_all before c.take_spans.new.space c.parts.inside.remember c.take_spans.new.remember c.args.spans.now.items c.take_spans.new.spans.items refl c.requires.empty both.0 both.1)
    (both_ok (TakesSpans c.parts.inside.space c.parts.inside.remember c.args.spans.now.items c.take_spans.new.space c.take_spans.new.remember c.take_spans.new.spans.items)
    ((c.take_spans.new.remember.entries ≡ []) × (c.take_spans.new.remember.kept ≡ [])) c.take_spans.result c.take_spans.ensures.taken c.take_spans.ensures.none))
