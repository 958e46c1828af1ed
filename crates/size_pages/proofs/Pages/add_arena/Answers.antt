use Rattle.size_pages.proofs.BeginLaws.{few_pages, arena_adds}
use Rattle.size_pages.proofs.Pages.add_arena.Goals as goal

pub grow_order-requires : goal.grow_order-requires
grow_order-requires c = few_pages c.args.self.now c.args.space.now c.requires.stands

pub returns-clause-ok : goal.returns-clause-ok
returns-clause-ok c =
    arena_adds c.args.self.now c.grow_order.new.self c.args.space.now c.add_arena.new.self c.requires.stands c.grow_order.ensures.order c.in_ok-grow_order.ensures.room c.requires.heads c.arena_words-words.ensures.ordered c.in_ok-add_arena.ensures.ordered c.in_ok-add_arena.ensures.ok.1
