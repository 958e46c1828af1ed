use Rattle.std.proofs.Common.{arith}
use Rattle.std.proofs.lemmas.List.Sorted.{IsPermutation-refl, IsPermutation-trans}
use Rattle.minor_collect.proofs.spans.order_spans.Goals as goal

pub loop-from-init : goal.loop-from-init
loop-from-init c = (IsPermutation-refl _, omega arith)

pub loop-from-preserved : goal.loop-from-preserved
loop-from-preserved c = (
  IsPermutation-trans _ _ _ c.loop-from.invariant.0 c.order_part.ensures.same,
  omega (arith, c.order_part.ensures.len, c.end_of_object-to.ensures.within),
)
