use Rattle.std.proofs.Common.{◌≡◌, ◌≤◌, ◌∙◌, ℕ, sym, slice_index, arith, subst}
use Rattle.size_pages.specs.PageWords.{word_in}
use Rattle.size_pages.specs.PageLists.{Unlinks}
use Rattle.size_pages.specs.Steps.{CanTakeOff}
use Rattle.size_pages.proofs.ResultLaws.{if_ok_map}
use Rattle.size_pages.proofs.TakeLaws.{first_with_room}
use Rattle.size_pages.proofs.ChoiceLaws.{finds_first, finds_begun}
use Rattle.size_pages.proofs.Pages.find_page.Goals as goal

pub first-page-requires : goal.first-page-requires
first-page-requires c = let small : c.args.n ≤ c.args.self.now.small = c.requires.n.1 in omega (arith, c.list-list.ensures, c.requires.heads, small)

pub returns-then-page-eq0-clause-found : goal.returns-then-page-eq0-clause-found
returns-then-page-eq0-clause-found c =
    let none = sym (subst (λ (t : ℕ). c.first-page.result ≡ slice_index c.args.self.now.heads.items t) c.list-list.ensures c.first-page.ensures) ∙ c.if-page-eq0.true in
    if_ok_map c.start_page.result _ _ (λ p b. finds_begun c.args.self.now c.start_page.new.self c.args.space.now c.start_page.new.space p c.args.n c.requires.stands c.requires.n.0 none b) c.start_page.ensures.begun

pub take_off-requires : goal.take_off-requires
take_off-requires c =
    subst (CanTakeOff c.args.self.now c.args.space.now c.first-page.result) (sym c.list-list.ensures)
    (first_with_room c.args.self.now c.args.space.now c.first-page.result c.args.n c.requires.stands c.requires.n.0 c.if-page-eq0.false
    (subst (λ (t : ℕ). c.first-page.result ≡ slice_index c.args.self.now.heads.items t) c.list-list.ensures c.first-page.ensures)).off

pub returns-clause-found : goal.returns-clause-found
returns-clause-found c =
    finds_first c.args.self.now c.take_off.new.self c.args.space.now c.take_off.new.space c.first-page.result c.args.n c.requires.stands c.requires.n.0 c.requires.n.1 c.if-page-eq0.false
    (subst (λ (t : ℕ). c.first-page.result ≡ slice_index c.args.self.now.heads.items t) c.list-list.ensures c.first-page.ensures) c.take_off.ensures.off (subst (Unlinks (word_in c.args.space.now) (word_in c.take_off.new.space) c.args.self.now.heads.items c.take_off.new.self.heads.items c.first-page.result) c.list-list.ensures c.take_off.ensures.unlinks) c.take_off.ensures.signs c.take_off.ensures.heads c.take_off.ensures.arenas
