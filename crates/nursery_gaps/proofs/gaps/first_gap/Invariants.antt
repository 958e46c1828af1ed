use Rattle.std.proofs.Common.{◌≡◌, take, drop}
use Rattle.nursery_gaps.specs.Ranges.{AreRising}
use Rattle.nursery_gaps.specs.Gaps.{end_of, AreNarrow}
use Rattle.nursery_gaps.proofs.gaps.first_gap.Given as goal

abbrev pub invariant-loop-passed : goal.invariant-loop-passed
invariant-loop-passed l = record {
  place : l.place ≡ end_of l.from (take l.passed l.ranges);
  narrow : AreNarrow l.n l.from (take l.passed l.ranges);
  rising : AreRising l.place l.to (drop l.passed l.ranges);
}
