use Rattle.std.proofs.Common.{◌≡◌, ◌+◌, ◌-◌, drop, sum_by, subst}
use Rattle.nursery_gaps.specs.Nursery.{spare_words}
use Rattle.nursery_gaps.proofs.LayoutLaws.{rest-is}
use Rattle.nursery_gaps.proofs.SpareLaws.{spare-is}
use Rattle.nursery_gaps.proofs.Nursery.spare.Goals as goal

pub returns : goal.returns
returns c =
    let counted = subst (λ ranges. c.free_between.result + sum_by (λ range. range.1) ranges
    ≡ c.self.inside.words + 1 - c.self.inside.cursor)
    (rest-is c.self.inside.pinned.items c.self.inside.passed)
    (rw c.deref.ensures.value at c.free_between.ensures)
    in
    subst (λ layout. c.free_between.result ≡ spare_words layout) c.self.view_is
    (spare-is c.self.inside.words c.self.inside.pins c.self.inside.gap c.self.inside.cursor c.self.inside.below.items
    (drop c.self.inside.passed c.self.inside.pinned.items) c.free_between.result
    (record { lower = c.self.invariant.lower; passed = c.self.invariant.passed; upper = c.self.invariant.upper }) counted)
