use Rattle.std.proofs.Common.{sym, arith}
use Rattle.nursery_gaps.proofs.GapLaws.{range-at, end_of-more, AreNarrow-more}
use Rattle.nursery_gaps.proofs.gaps.first_gap.Goals as goal

pub overflow_add-place : goal.overflow_add-place
overflow_add-place c =
    let within = (range-at c.loop-passed.place c.args.to c.args.ranges.now c.loop-passed.passed c.loop-passed-test.true
    c.loop-passed.invariant.rising).0 in
    omega (arith, within)

pub loop-passed-preserved : goal.loop-passed-preserved
loop-passed-preserved c = record {
  place = sym (end_of-more c.args.from c.args.ranges.now c.loop-passed.passed c.loop-passed-test.true);
  narrow = AreNarrow-more c.args.n c.args.from c.args.ranges.now c.loop-passed.passed c.loop-passed-test.true
      c.loop-passed.invariant.narrow
      (omega arith);
  rising = (range-at c.loop-passed.place c.args.to c.args.ranges.now c.loop-passed.passed c.loop-passed-test.true
      c.loop-passed.invariant.rising).1;
}
