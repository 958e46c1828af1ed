use Rattle.std.proofs.Common.{ℕ, sym, subst}
use Rattle.size_pages.specs.PageWords.{word_in}
use Rattle.size_pages.specs.PageLists.{Unlinks, Links}
use Rattle.size_pages.specs.Steps.{CanTakeOff, CanPutOn}
use Rattle.size_pages.proofs.EndLaws.{full_put, full_put_on}
use Rattle.size_pages.proofs.AroundLaws.{gives_full}
use Rattle.size_pages.proofs.Pages.give_back_full.Goals as goal

pub take_off-requires : goal.take_off-requires
take_off-requires c = subst (CanTakeOff c.args.self.now c.args.space.now c.args.page) (sym c.list.ensures) c.requires.off

pub put_on_chain-requires : goal.put_on_chain-requires
put_on_chain-requires c = full_put c.args.self.now c.take_off.new.self c.args.space.now c.take_off.new.space c.args.page c.args.a c.args.n c.requires c.take_off.ensures.off c.take_off.ensures.heads

pub put_on-requires : goal.put_on-requires
put_on-requires c = subst (λ (t : ℕ). CanPutOn c.take_off.new.self c.put_on_chain.new.space c.args.page t 1) (sym c.list-2.ensures) (full_put_on c.args.self.now c.take_off.new.self c.args.space.now c.take_off.new.space c.put_on_chain.new.space c.args.page c.args.a c.args.n c.requires c.take_off.ensures.off c.take_off.ensures.signs c.take_off.ensures.heads c.put_on_chain.ensures.gives c.put_on_chain.ensures.arenas)

pub returns : goal.returns
returns c =
    gives_full c.args.self.now c.take_off.new.self c.put_on.new.self c.args.space.now c.take_off.new.space c.put_on_chain.new.space c.put_on.new.space c.args.page c.args.a c.args.n c.requires c.take_off.ensures.off
    (subst (Unlinks (word_in c.args.space.now) (word_in c.take_off.new.space) c.args.self.now.heads.items c.take_off.new.self.heads.items c.args.page) c.list.ensures c.take_off.ensures.unlinks)
    c.take_off.ensures.signs c.take_off.ensures.heads c.take_off.ensures.arenas c.put_on_chain.ensures.gives c.put_on_chain.ensures.arenas c.put_on.ensures.on
    (subst (λ (t : ℕ). Links (word_in c.put_on_chain.new.space) (word_in c.put_on.new.space) c.take_off.new.self.heads.items c.put_on.new.self.heads.items c.args.page t 1) c.list-2.ensures c.put_on.ensures.links)
    c.put_on.ensures.heads c.put_on.ensures.arenas
