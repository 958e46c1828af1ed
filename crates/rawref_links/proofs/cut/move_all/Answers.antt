use Rattle.std.proofs.Common.{subst, sym, take, ◌+◌}
use Rattle.rawref_links.specs.Cuts.{MovesAt}
use Rattle.rawref_links.proofs.CutSteps.{MovesAt-more}
use Rattle.rawref_links.proofs.cut.move_all.Goals as goal

pub loop-number-preserved : goal.loop-number-preserved
loop-number-preserved c =
    subst (λ structs. MovesAt c.args.structures.now structs (take (c.loop-number.number-index + 1) c.args.numbers.now) c.args.to) (sym c.move_one.ensures)
    (MovesAt-more c.args.structures.now c.loop-number.structures c.args.numbers.now c.loop-number.number-index c.loop-number-test.true c.args.to c.loop-number.invariant)
