use Rattle.std.proofs.Common.{arith}
use Rattle.minor_collect.proofs.WalkSteps.{size_some, walk_can, walk_fits, walk_next, walk_end}
use Rattle.minor_collect.proofs.ending.list_range.Goals as goal

pub size_at-n-requires : goal.size_at-n-requires
size_at-n-requires c = walk_can c.args.parts.now c.args.from c.args.end c.loop-p.p c.args.dead.now.items c.loop-p.dead.items c.requires c.loop-p.invariant c.loop-p-test.true

pub list_gone-requires : goal.list_gone-requires
list_gone-requires c = walk_can c.args.parts.now c.args.from c.args.end c.loop-p.p c.args.dead.now.items c.loop-p.dead.items c.requires c.loop-p.invariant c.loop-p-test.true

pub overflow_add-p : goal.overflow_add-p
overflow_add-p c =
    let up = walk_fits c.args.parts.now c.args.from c.args.end c.loop-p.p c.size_at-n.result c.args.dead.now.items c.loop-p.dead.items c.requires c.loop-p.invariant c.loop-p-test.true c.size_at-n.ensures in
    let fits = c.requires.fits in omega (arith, up, fits)

pub loop-p-smaller : goal.loop-p-smaller
loop-p-smaller c =
    let two = size_some c.args.parts.now c.loop-p.p in let is = c.size_at-n.ensures in let low = c.loop-p-test.true in omega (arith, two, is, low)

pub loop-p-preserved : goal.loop-p-preserved
loop-p-preserved c = walk_next c.args.parts.now c.args.from c.args.end c.loop-p.p c.size_at-n.result c.args.dead.now.items c.loop-p.dead.items c.list_gone.new.dead.items c.loop-p.invariant c.loop-p-test.true c.size_at-n.ensures c.in_ok-list_gone.ensures

pub returns : goal.returns
returns c = λ places walk. walk_end c.args.parts.now c.args.from c.args.end c.loop-p.p c.args.dead.now.items c.loop-p.dead.items places c.loop-p.invariant (omega (arith, c.loop-p-test.false)) walk
