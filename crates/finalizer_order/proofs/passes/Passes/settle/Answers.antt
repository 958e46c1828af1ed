use Rattle.std.proofs.Common.{ℕ, ◌+◌, List, ◌++◌, map, ap, ◌∙◌}
use Rattle.std.proofs.lemmas.List.Sorted.{IsNonDecreasingBy-from_sort}
use Rattle.heap_space.specs.Places.{word_at}
use Rattle.finalizer_order.specs.Passes.{settled_word}
use Rattle.finalizer_order.proofs.Objects.{changed}
use Rattle.finalizer_order.proofs.ChooseSteps.{settled}
use Rattle.finalizer_order.proofs.passes.Passes.settle.Goals as goal

pub returns-clause-settled : goal.returns-clause-settled
returns-clause-settled c =
    let sorted : List ℕ = c.sort_unstable.new.self.items in
    settled c.extend_from_slice.result c.args.self.now.marked.items c.args.space.now c.visit_all.new.space c.args.kept.now.items c.extend_from_slice.new.self.items c.visit_all.new.births.items c.deref-2.result.now
    c.extend_from_slice.ensures.items
    (c.in_ok-visit_all.ensures.visited ∙ ap (λ (xs : List ℕ). changed settled_word xs c.args.space.now) c.deref.ensures.value)
    (c.in_ok-visit_all.ensures.births ∙ ap (λ (xs : List ℕ). xs ++ map (λ p. word_at c.args.space.now.blocks (p + 1)) c.deref.result.now) c.clear.ensures.items
    ∙ ap (map (λ p. word_at c.args.space.now.blocks (p + 1))) c.deref.ensures.value)
    (rw c.deref-2.ensures.value c.sort_unstable.ensures.permutation)
    (rw c.deref-2.ensures.value (IsNonDecreasingBy-from_sort (λ x. x) sorted c.sort_unstable.ensures.sorted))
