use Rattle.replay_bench.proofs.SoFar.{counts_item}
use Rattle.replay_bench.proofs.items.do_item.Goals as goal

pub item-requires : goal.item-requires
item-requires c = record { at = c.requires.at; stands = c.requires.stands }

pub returns-in-Some : goal.returns-in-Some
returns-in-Some c = λ p at.
    counts_item c.args.item.now c.args.tally c.in-Some.more c.item.new.self c.item.new.heap p c.clear.new.self.items c.item.new.out.items c.clear.ensures.items
    (c.in-Ok.ensures.answers p at) (rw c.deref.ensures.value at c.in-Some.ensures)
