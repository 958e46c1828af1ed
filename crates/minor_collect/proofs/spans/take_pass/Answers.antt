use Rattle.std.proofs.Common.{List, length, ◌≤◌, refl, sym, ◌∙◌, subst}
use Rattle.remember_cards.specs.declared.Span.{Span}
use Rattle.minor_collect.specs.Spans.{TakesSpans}
use Rattle.minor_collect.proofs.SpanSteps.{longer, takes_more, takes_last, can_take_more}
use Rattle.minor_collect.proofs.spans.take_pass.Goals as goal

pub take_span-requires : goal.take_span-requires
take_span-requires c = can_take_more c.requires c.loop-span.invariant.takes

pub loop-span-preserved : goal.loop-span-preserved
loop-span-preserved c = record {
  takes = subst (TakesSpans c.args.space.now c.args.remember.now c.args.spans.now.items c.take_span.new.space c.take_span.new.remember) (sym c.in_ok-push.ensures.items)
      (takes_more c.loop-span.invariant.takes (c.in-Some.ensures.keeps refl) c.in-Some.ensures.handed);
  kept = c.in-Some.ensures.same refl ∙ c.loop-span.invariant.kept;
  more = subst (λ (spans : List Span). length c.args.spans.now.items ≤ length spans) (sym c.in_ok-push.ensures.items) (longer c.loop-span.spans.items _ c.loop-span.invariant.more);
}

pub returns-clause-taken : goal.returns-clause-taken
returns-clause-taken c = takes_last c.loop-span.invariant.takes c.in_default.ensures.space c.in_default.ensures.none
