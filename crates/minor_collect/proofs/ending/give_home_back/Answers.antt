use Rattle.std.proofs.Common.{ℕ, sym, ap, ◌∙◌, subst}
use Rattle.std.specs.Ordering.{nat_cmp}
use Rattle.std.specs.FinMap as map_of
use Rattle.object_view.specs.Views.{HasObject}
use Rattle.heap_parts.specs.Parts.{HeapParts}
use Rattle.heap_parts.specs.contracts.parts.Parts.{the_view}
use Rattle.minor_collect.specs.Gives.{GivesSome, GaveOne}
use Rattle.minor_collect.proofs.GiveLaws.{give_live, gave_none, gave_home, given_parts}
use Rattle.minor_collect.proofs.RelocateLaws.{removed_here, removed_other}
use Rattle.minor_collect.proofs.ending.give_home_back.Goals as goal

pub words_of-n-requires : goal.words_of-n-requires
words_of-n-requires c =
    subst (λ (now : HeapParts). HasObject now.memory now.setup.types c.args.p) (sym c.parts.view_is) (c.requires.gives.whole c.args.p c.requires.there)

pub give_back-requires : goal.give_back-requires
give_back-requires c =
    give_live {now = the_view c.parts.inside} (subst (GivesSome c.requires.giving) (sym c.parts.view_is) c.requires.gives) c.args.p c.requires.there c.in-Some.home c.words_of-n.result
    (sym c.take_home.ensures.home ∙ c.in-Some.is) c.words_of-n.ensures

pub returns-in-Some : goal.returns-in-Some
returns-in-Some c = λ giving gives there unpinned.
    let before : HeapParts = the_view c.parts.inside in
    subst (λ (now : HeapParts). GaveOne giving now (given_parts before c.give_back.new.space c.take_home.new.self c.give_back.new.self) c.args.p) c.parts.view_is
    (gave_home {now = before} (subst (GivesSome giving) (sym c.parts.view_is) gives) c.args.p there unpinned c.in-Some.home c.words_of-n.result c.give_back.new.space c.take_home.new.self c.give_back.new.self
    (sym c.take_home.ensures.home ∙ c.in-Some.is) c.words_of-n.ensures c.give_back.ensures.given c.give_back.ensures.kept c.give_back.ensures.outside
    (ap (λ (homes : map_of.FinMap nat_cmp ℕ). map_of.get homes c.args.p) c.take_home.ensures.taken ∙ removed_here before.shadows c.args.p)
    (λ q ne. ap (λ (homes : map_of.FinMap nat_cmp ℕ). map_of.get homes q) c.take_home.ensures.taken ∙ removed_other before.shadows c.args.p q ne)
    c.give_back.ensures.arena_words c.give_back.ensures.sizes)

pub returns-in_default : goal.returns-in_default
returns-in_default c = λ giving gives there unpinned.
    let before : HeapParts = the_view c.parts.inside in
    subst (λ (homes : map_of.FinMap nat_cmp ℕ). GaveOne giving c.args.parts.now (record before { shadows = homes }) c.args.p) (sym c.in_default.ensures.unchanged)
    (subst (λ (now : HeapParts). GaveOne giving now before c.args.p) c.parts.view_is
    (gave_none {now = before} (subst (GivesSome giving) (sym c.parts.view_is) gives) c.args.p there (sym c.take_home.ensures.home ∙ c.in_default.is)))
