use Rattle.std.proofs.Common.{ap, ◌∙◌}
use Rattle.remember_cards.specs.Remembering.{Remembering}
use Rattle.minor_collect.proofs.SpanLaws.{drained_card, keeps_middle, span_writes}
use Rattle.minor_collect.proofs.spans.take_span.Goals as goal

pub retell-requires : goal.retell-requires
retell-requires c =
    span_writes c.args.space.now c.args.remember.now c.drain_next.new.self c.in_ok-span.span c.requires c.in_ok-span.ensures.handed
    (ap (λ (r : Remembering). r.card) c.drain_next.ensures.drained ∙ drained_card c.args.remember.now c.args.remember.now.entries)

pub returns-clause-keeps : goal.returns-clause-keeps
returns-clause-keeps c = λ some.
    keeps_middle c.args.space.now c.retell.new.space c.args.remember.now c.drain_next.new.self c.in_ok-span.span c.in_ok-span.ensures.handed
    (ap (λ (r : Remembering). r.card) c.drain_next.ensures.drained ∙ drained_card c.args.remember.now c.args.remember.now.entries) c.retell.ensures
