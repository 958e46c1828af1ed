use Rattle.std.proofs.Common.{arith}
use Rattle.size_pages.specs.PageWords.{word_in}
use Rattle.size_pages.proofs.StoreLaws.{takes_chained}
use Rattle.size_pages.proofs.blocks.take_chained.Goals as goal

pub returns-clause-takes : goal.returns-clause-takes
returns-clause-takes c =
    takes_chained (word_in c.args.space.now) (word_in c.set_first_free.new.space) (word_in c.set_live_count.new.space) (word_in c.store.new.space) (word_in c.store.new.space) c.args.page c.first_free-block.result c.next_free-next.result c.live_count-count.result
    (omega (arith, c.first_free-block.ensures, c.requires.can)) c.first_free-block.ensures c.next_free-next.ensures c.live_count-count.ensures c.set_first_free.ensures.word c.set_live_count.ensures.word c.store.ensures.word
