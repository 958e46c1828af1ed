use Rattle.std.proofs.Common.{ℕ, List, get_or, sym, subst}
use Rattle.std.proofs.lemmas.List.{take_more}
use Rattle.heap_space.specs.Places.{word_at}
use Rattle.weak_lists.specs.Targets.{is_unvisited, kept_target}
use Rattle.weak_lists.proofs.Lists.{in-at, from-take}
use Rattle.weak_lists.proofs.Settling.{IsSettling, settling-object, settling-agrees, settling-passes, settling-more, weak-same, settling-has}
use Rattle.weak_lists.proofs.Rules.{clear-weak, clear-rule, first-there}
use Rattle.weak_lists.proofs.targets.clear_unvisited.Goals as goal

pub clear_target-requires-clause-object : goal.clear_target-requires-clause-object
clear_target-requires-clause-object c =
    let xs : List ℕ = c.args.places.now in let i : ℕ = c.loop-a.a-index in
    let a = clear-weak c.requires.1 in
    settling-object a c.loop-a.invariant (λ p t. from-take p i xs t) (get_or xs i 0) (a.there (get_or xs i 0) (in-at xs i c.loop-a-test.true))

pub clear_target-requires-clause-weak : goal.clear_target-requires-clause-weak
clear_target-requires-clause-weak c =
    let xs : List ℕ = c.args.places.now in let i : ℕ = c.loop-a.a-index in
    let a = clear-weak c.requires.1 in
    weak-same a (word_at c.loop-a.space.blocks) (settling-agrees a c.loop-a.invariant (λ p t. from-take p i xs t)) (get_or xs i 0) (in-at xs i c.loop-a-test.true)

pub clear_target-requires-clause-target : goal.clear_target-requires-clause-target
clear_target-requires-clause-target c = λ o.
    let xs : List ℕ = c.args.places.now in let i : ℕ = c.loop-a.a-index in
    let a = clear-weak c.requires.1 in
    settling-has a c.loop-a.invariant (λ p t. from-take p i xs t) _ (first-there a _
    (settling-passes a (clear-rule c.args.nursery.now.words a) c.requires.1.targets c.loop-a.invariant (λ p t. from-take p i xs t) (get_or xs i 0) (in-at xs i c.loop-a-test.true) o))

pub loop-a-preserved : goal.loop-a-preserved
loop-a-preserved c =
    let xs : List ℕ = c.args.places.now in let i : ℕ = c.loop-a.a-index in
    let a = clear-weak c.requires.1 in
    let w = word_at c.args.space.now.blocks in
    let n : ℕ = c.args.nursery.now.words in
    subst (λ (done : List ℕ). IsSettling c.args.types.now (kept_target n w) (is_unvisited n w) c.args.space.now c.clear_target.new.space done c.args.cleared.now.items c.clear_target.new.cleared.items)
    (sym (take_more xs i 0 c.loop-a-test.true))
    (settling-more a (clear-rule n a) c.requires.1.targets c.loop-a.invariant (λ p t. from-take p i xs t) (get_or xs i 0) (in-at xs i c.loop-a-test.true)
    c.clear_target.new.space c.clear_target.new.cleared.items c.in_ok-clear_target.ensures.target c.in_ok-clear_target.ensures.told)
