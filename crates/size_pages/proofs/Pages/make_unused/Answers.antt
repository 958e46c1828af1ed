use Rattle.size_pages.proofs.ResultLaws.{on_ok_map, on_err_map}
use Rattle.size_pages.proofs.BeginLaws.{stands_found, heads_found, makes_found, makes_added, keeps_found}
use Rattle.size_pages.proofs.Pages.make_unused.Goals as goal

pub add_arena-requires-clause-stands : goal.add_arena-requires-clause-stands
add_arena-requires-clause-stands c = stands_found c.args.self.now c.find_unused.new.self c.args.space.now c.find_unused.ensures c.requires.stands

pub add_arena-requires-clause-heads : goal.add_arena-requires-clause-heads
add_arena-requires-clause-heads c = heads_found c.args.self.now c.find_unused.new.self c.args.space.now c.find_unused.ensures c.requires.heads

pub returns-then-self-clause-ok : goal.returns-then-self-clause-ok
returns-then-self-clause-ok c = on_ok_map c.add_arena.result _ _ (makes_added c.args.self.now c.find_unused.new.self c.add_arena.new.self c.args.space.now c.add_arena.new.space c.find_unused.ensures c.if-self.true) c.add_arena.ensures.ok

pub returns-then-self-clause-err_blocks : goal.returns-then-self-clause-err_blocks
returns-then-self-clause-err_blocks c = on_err_map c.add_arena.result _ _ (keeps_found c.args.self.now c.find_unused.new.self c.add_arena.new.self c.args.space.now c.find_unused.ensures) c.add_arena.ensures.err_order

pub returns-clause-ok : goal.returns-clause-ok
returns-clause-ok c = makes_found c.args.self.now c.find_unused.new.self c.args.space.now c.requires.stands c.find_unused.ensures c.if-self.false
