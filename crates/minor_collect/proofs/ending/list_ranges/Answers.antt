use Rattle.heap_parts.specs.Parts.{word_in}
use Rattle.heap_parts.specs.Places.{block_at}
use Rattle.minor_collect.proofs.PinnedLaws.{blocks_more}
use Rattle.minor_collect.proofs.ending.list_ranges.Goals as goal

pub loop-p-preserved : goal.loop-p-preserved
loop-p-preserved c = blocks_more (block_at c.args.parts.now.setup.types (word_in c.args.parts.now)) c.args.ranges.now.items c.loop-p.ranges.items c.list_block.new.ranges.items c.args.places.now c.loop-p.p-index
    c.loop-p-test.true c.loop-p.invariant c.in_ok-list_block.ensures
