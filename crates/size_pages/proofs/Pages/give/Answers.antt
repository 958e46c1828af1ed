use Rattle.std.proofs.Common.{arith, ◌∙◌, sym, subst}
use Rattle.size_pages.specs.Kinds.{kind_number}
use Rattle.size_pages.specs.Steps.{CanEnd}
use Rattle.size_pages.proofs.KindLaws.{class_list}
use Rattle.size_pages.proofs.EndLaws.{give_facts, can_end, can_give_full}
use Rattle.size_pages.proofs.AroundLaws.{gives_plain}
use Rattle.size_pages.proofs.Pages.give.Goals as goal

pub kind-kind-requires : goal.kind-kind-requires
kind-kind-requires c = let g = give_facts c.args.self.now c.args.space.now c.args.page c.args.a c.args.n c.requires.live c.requires.page in (g.header 6 (omega arith), g.right.known)

pub live_count-live-requires : goal.live_count-live-requires
live_count-live-requires c = (give_facts c.args.self.now c.args.space.now c.args.page c.args.a c.args.n c.requires.live c.requires.page).header 2 (omega arith)

pub put_on_chain-requires : goal.put_on_chain-requires
put_on_chain-requires c = (give_facts c.args.self.now c.args.space.now c.args.page c.args.a c.args.n c.requires.live c.requires.page).put

pub put_on_chain-requires-2 : goal.put_on_chain-requires-2
put_on_chain-requires-2 c = (give_facts c.args.self.now c.args.space.now c.args.page c.args.a c.args.n c.requires.live c.requires.page).put

pub list-requires : goal.list-requires
list-requires c = omega (arith, (give_facts c.args.self.now c.args.space.now c.args.page c.args.a c.args.n c.requires.live c.requires.page).small)

pub end_page-requires : goal.end_page-requires
end_page-requires c =
    let g = give_facts c.args.self.now c.args.space.now c.args.page c.args.a c.args.n c.requires.live c.requires.page in
    subst (CanEnd c.args.self.now c.args.space.now c.args.page c.args.a c.args.n)
    (class_list c.kind-kind.result c.args.n (omega (arith, g.kind_low, c.kind-kind.ensures)) (c.is_waiting-waits.ensures.no c.if-waits.false) ∙ sym c.list.ensures)
    (can_end c.args.self.now c.args.space.now c.args.page c.args.a c.args.n (kind_number c.kind-kind.result) c.live_count-live.result c.requires.live c.requires.page c.kind-kind.ensures c.live_count-live.ensures (c.is_waiting-waits.ensures.no c.if-waits.false) c.if-live-eq1.true)

pub give_back_full-requires : goal.give_back_full-requires
give_back_full-requires c = can_give_full c.args.self.now c.args.space.now c.args.page c.args.a c.args.n (kind_number c.kind-kind.result) c.live_count-live.result c.requires.live c.requires.page c.kind-kind.ensures c.live_count-live.ensures (c.is_full.ensures.yes c.if-is_full.true) c.if-live-eq1.false

pub returns-then-waits : goal.returns-then-waits
returns-then-waits c = gives_plain c.args.self.now c.args.space.now c.put_on_chain.new.space c.args.page c.args.a c.args.n (kind_number c.kind-kind.result) c.live_count-live.result c.requires.live c.requires.page c.kind-kind.ensures c.live_count-live.ensures (omega (arith, c.is_waiting-waits.ensures.yes c.if-waits.true)) (λ e. absurd (omega (arith, e, c.is_waiting-waits.ensures.yes c.if-waits.true))) c.put_on_chain.ensures.gives c.put_on_chain.ensures.arenas

pub returns : goal.returns
returns c = gives_plain c.args.self.now c.args.space.now c.put_on_chain-2.new.space c.args.page c.args.a c.args.n (kind_number c.kind-kind.result) c.live_count-live.result c.requires.live c.requires.page c.kind-kind.ensures c.live_count-live.ensures (c.is_full.ensures.no c.if-is_full.false) (λ e. c.if-live-eq1.false) c.put_on_chain-2.ensures.gives c.put_on_chain-2.ensures.arenas
