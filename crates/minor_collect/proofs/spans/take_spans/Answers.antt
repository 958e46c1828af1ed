use Rattle.std.proofs.Common.{List, sym, subst}
use Rattle.remember_cards.specs.declared.Span.{Span}
use Rattle.minor_collect.specs.Spans.{TakesSpans}
use Rattle.minor_collect.proofs.SpanSteps.{takes_twice, takes_turned, can_take_more}
use Rattle.minor_collect.proofs.spans.take_spans.Goals as goal

pub take_pass-requires-2 : goal.take_pass-requires-2
take_pass-requires-2 c = can_take_more c.requires.take c.in_ok-take_pass.ensures.taken

pub returns-clause-taken : goal.returns-clause-taken
returns-clause-taken c = subst (λ (spans : List Span). TakesSpans c.args.space.now c.args.remember.now c.args.spans.now.items c.take_pass-2.new.space c.take_pass-2.new.remember spans) (sym c.rotate_left.ensures.items)
    (takes_turned _ c.requires.empty (takes_twice c.in_ok-take_pass.ensures.taken c.in_ok-take_pass-2.ensures.taken))
