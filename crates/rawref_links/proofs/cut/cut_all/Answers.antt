use Rattle.std.proofs.Common.{◌+◌, IsSome, take, subst, sym, arith}
use Rattle.rawref_links.specs.Cuts.{CutsAt}
use Rattle.rawref_links.proofs.CutSteps.{value_at-next, CutsAt-more, ends_of-more, newly_dead-more, appended}
use Rattle.rawref_links.proofs.cut.cut_all.Goals as goal

pub cut_one-requires-clause-there : goal.cut_one-requires-clause-there
cut_one-requires-clause-there c =
    subst IsSome (sym (value_at-next c.args.structures.now c.loop-number.structures c.args.numbers.now c.loop-number.number-index c.loop-number-test.true
    c.requires.listed.rising c.loop-number.invariant.structures))
    (c.requires.listed.there c.loop-number.number-index 0 c.loop-number-test.true)

pub loop-number-preserved : goal.loop-number-preserved
loop-number-preserved c = record {
  structures = subst (λ structs. CutsAt c.args.structures.now structs (take (c.loop-number.number-index + 1) c.args.numbers.now)) (sym c.cut_one.ensures.structures)
      (CutsAt-more c.args.structures.now c.loop-number.structures c.args.numbers.now c.loop-number.number-index c.loop-number-test.true
      c.requires.listed.rising c.loop-number.invariant.structures);
  ends = appended c.args.ends.now.items c.loop-number.ends.items c.cut_one.new.ends.items _ _ _ c.cut_one.ensures.ends c.loop-number.invariant.ends
      (ends_of-more c.args.structures.now c.loop-number.structures c.args.numbers.now c.loop-number.number-index c.loop-number-test.true
      c.requires.listed.rising c.loop-number.invariant.structures);
  dead = appended c.args.dead.now.items c.loop-number.dead.items c.cut_one.new.dead.items _ _ _ c.cut_one.ensures.dead c.loop-number.invariant.dead
      (newly_dead-more c.args.structures.now c.loop-number.structures c.args.numbers.now c.loop-number.number-index c.loop-number-test.true
      c.requires.listed.rising c.loop-number.invariant.structures);
  dead_room = omega (arith, c.cut_one.ensures.dead_used, c.cut_one.ensures.dead_capacity);
  ends_room = omega (arith, c.cut_one.ensures.ends_used, c.cut_one.ensures.ends_capacity);
}
