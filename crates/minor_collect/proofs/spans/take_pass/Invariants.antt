use Rattle.remember_cards.specs.Drained.{spans_left}
use Rattle.minor_collect.proofs.SpanSteps.{TakesSome}
use Rattle.minor_collect.proofs.spans.take_pass.Given as goal

abbrev pub invariant-loop-span : goal.invariant-loop-span
invariant-loop-span l = TakesSome l.fn.space l.fn.remember l.fn.spans.items l.space l.remember l.spans.items

abbrev pub decreases-loop-span : goal.decreases-loop-span
decreases-loop-span l = spans_left l.remember
