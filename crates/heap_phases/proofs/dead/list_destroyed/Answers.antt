use Rattle.std.proofs.Common.{ℕ, List, ◌++◌, map, filter, ap, ◌∙◌, subst}
use Rattle.std.specs.List.Sorted.{IsPermutation}
use Rattle.std.proofs.lemmas.List.Sorted.{IsNonDecreasingBy-from_sort}
use Rattle.heap_phases.specs.Ending.{birth_in, is_destroyed}
use Rattle.heap_phases.proofs.dead.list_destroyed.Goals as goal

pub returns : goal.returns
returns c = record {
  just = subst (λ (xs : List ℕ). IsPermutation xs c.sort_unstable.new.self.items)
      (c.in_ok-keep_destroyed.ensures ∙ ap (λ (xs : List ℕ). xs ++ map (birth_in c.args.space.now) (filter (is_destroyed c.args.types.now c.args.space.now) c.args.blocks.now)) c.clear.ensures.items)
      c.sort_unstable.ensures.permutation;
  rising = IsNonDecreasingBy-from_sort (λ x. x) c.sort_unstable.new.self.items c.sort_unstable.ensures.sorted;
}
