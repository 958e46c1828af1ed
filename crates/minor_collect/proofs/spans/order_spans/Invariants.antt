use Rattle.std.specs.Prelude.{◌≤◌, ◌-◌, length}
use Rattle.std.specs.List.Sorted.{IsPermutation}
use Rattle.minor_collect.proofs.spans.order_spans.Given as goal

abbrev pub invariant-loop-from : goal.invariant-loop-from
invariant-loop-from l = IsPermutation l.fn.spans l.spans × (l.from ≤ length l.spans)

abbrev pub decreases-loop-from : goal.decreases-loop-from
decreases-loop-from l = length l.spans - l.from
