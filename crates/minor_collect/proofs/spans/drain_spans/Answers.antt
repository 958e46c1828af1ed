use Rattle.std.proofs.Common.{rules}
use Rattle.minor_collect.proofs.DrainSteps.{spans_begin, span_get, span_can, spans_next, spans_end}
use Rattle.minor_collect.proofs.spans.drain_spans.Goals as goal

pub loop-span-init : goal.loop-span-init
loop-span-init c = spans_begin c.args.parts.now c.args.moving.now c.args.spans.now

pub returns : goal.returns
returns c = λ stage spot standing may. spans_end c.loop-span.invariant (search (rules, c.loop-span-test.false)) stage spot standing may

pub drain_span-requires : goal.drain_span-requires
drain_span-requires c = span_can _ c.requires c.loop-span.invariant (span_get c.args.spans.now c.loop-span.span-index (record { a = 0; from = 0; to = 0 }) c.loop-span-test.true)

pub loop-span-preserved : goal.loop-span-preserved
loop-span-preserved c = spans_next _ c.loop-span.invariant (span_get c.args.spans.now c.loop-span.span-index (record { a = 0; from = 0; to = 0 }) c.loop-span-test.true) c.in_ok-drain_span.ensures
