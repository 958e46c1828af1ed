use Rattle.std.proofs.Common.{arith}
use Rattle.size_pages.specs.PageWords.{word_in}
use Rattle.size_pages.proofs.StoreLaws.{gives_back}
use Rattle.size_pages.proofs.blocks.put_on_chain.Goals as goal

pub returns-clause-gives : goal.returns-clause-gives
returns-clause-gives c =
    gives_back (word_in c.args.space.now) (word_in c.store.new.space) (word_in c.set_next_free.new.space) (word_in c.set_first_free.new.space) (word_in c.set_live_count.new.space) c.args.page c.args.block c.first_free-first.result c.live_count-count.result c.mask.result c.mask.ensures
    c.requires.apart c.first_free-first.ensures c.live_count-count.ensures (omega (arith, c.live_count-count.ensures)) c.store.ensures.word c.set_next_free.ensures.word c.set_first_free.ensures.word c.set_live_count.ensures.word
