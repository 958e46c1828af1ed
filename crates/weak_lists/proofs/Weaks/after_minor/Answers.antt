use Rattle.std.proofs.Common.{◌≡◌, ℕ, List, length, IsTrue, sym, ap, ◌∙◌, subst, arith}
use Rattle.heap_space.specs.Places.{word_at}
use Rattle.object_model.specs.Sets.{is_in}
use Rattle.weak_lists.specs.Targets.{weaks_left, is_gone}
use Rattle.weak_lists.specs.Conditions.{CanSettle}
use Rattle.weak_lists.specs.Cleared.{births_losing}
use Rattle.weak_lists.proofs.RisingLaws.{tells-in-order}
use Rattle.weak_lists.proofs.Rules.{read-held, settle-left}
use Rattle.weak_lists.proofs.Weaks.after_minor.Goals as goal

pub drop_vanished-requires : goal.drop_vanished-requires
drop_vanished-requires c = λ x t. read-held c.arena_words-ordered.ensures.ordered c.requires.1 x (subst (λ (l : List ℕ). IsTrue (is_in x l)) c.self.view_is t)

pub follow_targets-requires : goal.follow_targets-requires
follow_targets-requires c =
    let left : c.deref.result.now ≡ weaks_left c.args.nursery.now.words (word_at c.args.space.now.blocks) c.args.self.now =
    c.deref.ensures.value ∙ (c.drop_vanished.ensures ∙ ap (weaks_left c.args.nursery.now.words (word_at c.args.space.now.blocks)) c.self.view_is) in
    (c.requires.0, subst (λ (l : List ℕ). CanSettle c.args.types.now c.args.space.now l c.requires.0) (sym left) (settle-left c.arena_words-ordered.ensures.ordered c.requires.1))

pub returns-clause-front : goal.returns-clause-front
returns-clause-front c =
    let size : length c.args.cleared.now.items ≡ c.len-told.result = omega (arith, c.len-told.ensures) in
    let end = c.sort_from.ensures in
    let t = tells-in-order c.args.cleared.now.items c.follow_targets.new.cleared.items c.sort_from.new.numbers.items
    (births_losing c.args.types.now (word_at c.args.space.now.blocks) (is_gone c.args.nursery.now.words (word_at c.args.space.now.blocks)) c.deref.result.now)
    c.len-told.result size c.in_ok-follow_targets.ensures.told end.front end.same end.rising in
    (t.sorted, t.behind)
