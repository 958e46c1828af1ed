use Rattle.text_model.specs.Generated.{generated_items}
use Rattle.bench_laws.proofs.Scripts.{generated_done}
use Rattle.replay_bench.proofs.SoFar.{done_first, next_can, done_more}
use Rattle.replay_bench.proofs.items.do_items.Goals as goal

pub loop-item-init : goal.loop-item-init
loop-item-init c =
    done_first (generated_items c.args.start c.args.count) c.new-ahead.result c.new-tally.result c.args.session.now c.args.heap.now
    c.new-ahead.ensures c.new-tally.ensures c.requires.session c.requires.closed (generated_done c.args.start c.args.count c.requires.few)

pub do_item-requires : goal.do_item-requires
do_item-requires c =
    next_can (generated_items c.args.start c.args.count) c.loop-item.ahead c.next.new.self c.in-Some.item c.loop-item.tally c.loop-item.session c.loop-item.heap
    c.loop-item.invariant c.in-Some.ensures.ahead

pub loop-item-preserved : goal.loop-item-preserved
loop-item-preserved c =
    let so = c.loop-item.invariant in
    done_more (generated_items c.args.start c.args.count) c.loop-item.ahead c.next.new.self c.in-Some.item c.loop-item.tally c.in_ok-tally.tally
    c.loop-item.session c.do_item.new.session c.loop-item.heap c.do_item.new.heap so c.in-Some.ensures.ahead (c.in_ok-tally.ensures so.counts.at so.counts.stands)
