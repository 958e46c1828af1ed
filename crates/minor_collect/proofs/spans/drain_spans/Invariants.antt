use Rattle.minor_collect.proofs.DrainSteps.{SpansTo}
use Rattle.minor_collect.proofs.spans.drain_spans.Given as goal

abbrev pub invariant-loop-span : goal.invariant-loop-span
invariant-loop-span l = SpansTo l.fn.parts l.parts l.fn.moving l.moving l.spans l.span-index
