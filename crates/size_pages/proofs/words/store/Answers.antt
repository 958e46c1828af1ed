use Rattle.size_pages.proofs.ArenaLaws.{stored_in_arenas, stored_word, can_store_after}
use Rattle.size_pages.proofs.words.store.Goals as goal

pub returns-clause-word : goal.returns-clause-word
returns-clause-word c = stored_word c.args.space.now c.write.new.self c.args.a c.args.v c.requires c.write.ensures

pub returns-clause-arenas : goal.returns-clause-arenas
returns-clause-arenas c = stored_in_arenas c.args.space.now c.write.new.self c.args.a c.args.v c.requires c.write.ensures

pub returns-clause-still : goal.returns-clause-still
returns-clause-still c b h = can_store_after c.args.space.now c.write.new.self b (stored_in_arenas c.args.space.now c.write.new.self c.args.a c.args.v c.requires c.write.ensures) h
