use Rattle.std.proofs.Common.{ℕ, List, get_or, sym, subst}
use Rattle.std.proofs.lemmas.List.{take_more}
use Rattle.heap_space.specs.Places.{word_at}
use Rattle.weak_lists.specs.Targets.{is_gone, followed}
use Rattle.weak_lists.proofs.Lists.{in-at, from-take}
use Rattle.weak_lists.proofs.Settling.{IsSettling, settling-object, settling-agrees, settling-passes, settling-more, weak-same}
use Rattle.weak_lists.proofs.Rules.{settle-weak, follow-rule, follow-reads}
use Rattle.weak_lists.proofs.targets.follow_targets.Goals as goal

pub follow_target-requires-clause-object : goal.follow_target-requires-clause-object
follow_target-requires-clause-object c =
    let xs : List ℕ = c.args.places.now in let i : ℕ = c.loop-a.a-index in
    let a = settle-weak c.requires.1 in
    settling-object a c.loop-a.invariant (λ p t. from-take p i xs t) (get_or xs i 0) (a.there (get_or xs i 0) (in-at xs i c.loop-a-test.true))

pub follow_target-requires-clause-weak : goal.follow_target-requires-clause-weak
follow_target-requires-clause-weak c =
    let xs : List ℕ = c.args.places.now in let i : ℕ = c.loop-a.a-index in
    let a = settle-weak c.requires.1 in
    weak-same a (word_at c.loop-a.space.blocks) (settling-agrees a c.loop-a.invariant (λ p t. from-take p i xs t)) (get_or xs i 0) (in-at xs i c.loop-a-test.true)

pub follow_target-requires-clause-target : goal.follow_target-requires-clause-target
follow_target-requires-clause-target c =
    let xs : List ℕ = c.args.places.now in let i : ℕ = c.loop-a.a-index in
    let a = settle-weak c.requires.1 in
    follow-reads a c.requires.1.unmoved c.loop-a.space _ (settling-agrees a c.loop-a.invariant (λ p t. from-take p i xs t)) c.loop-a.invariant.changes.extents
    (settling-passes a (follow-rule a c.requires.1.unmoved c.args.nursery.now.words) c.requires.1.targets c.loop-a.invariant (λ p t. from-take p i xs t) (get_or xs i 0) (in-at xs i c.loop-a-test.true))

pub loop-a-preserved : goal.loop-a-preserved
loop-a-preserved c =
    let xs : List ℕ = c.args.places.now in let i : ℕ = c.loop-a.a-index in
    let a = settle-weak c.requires.1 in
    let w = word_at c.args.space.now.blocks in
    let n : ℕ = c.args.nursery.now.words in
    subst (λ (done : List ℕ). IsSettling c.args.types.now (followed n w) (is_gone n w) c.args.space.now c.follow_target.new.space done c.args.cleared.now.items c.follow_target.new.cleared.items)
    (sym (take_more xs i 0 c.loop-a-test.true))
    (settling-more a (follow-rule a c.requires.1.unmoved n) c.requires.1.targets c.loop-a.invariant (λ p t. from-take p i xs t) (get_or xs i 0) (in-at xs i c.loop-a-test.true)
    c.follow_target.new.space c.follow_target.new.cleared.items c.in_ok-follow_target.ensures.target c.in_ok-follow_target.ensures.told)
