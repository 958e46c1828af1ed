use Rattle.std.proofs.Common.{◌≡◌, ◌+◌, take, drop, sum_by}
use Rattle.nursery_gaps.specs.Ranges.{AreRising}
use Rattle.nursery_gaps.proofs.gaps.free_between.Given as goal

abbrev pub invariant-loop-range : goal.invariant-loop-range
invariant-loop-range l = record {
  counted : l.free + sum_by (λ range. range.1) (take l.range-index l.ranges) + l.from ≡ l.place;
  rising : AreRising l.place l.to (drop l.range-index l.ranges);
}
