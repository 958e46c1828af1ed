use Rattle.std.proofs.Common.{arith}
use Rattle.nursery_gaps.proofs.GapLaws.{range-at}
use Rattle.nursery_gaps.proofs.gaps.free_between.Goals as goal

pub overflow_add-place : goal.overflow_add-place
overflow_add-place c =
    let within = (range-at c.loop-range.place c.args.to c.args.ranges.now c.loop-range.range-index c.loop-range-test.true
    c.loop-range.invariant.rising).0 in
    omega (arith, within)
