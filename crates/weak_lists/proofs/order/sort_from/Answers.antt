use Rattle.std.proofs.Common.{◌≡◌, ℕ, ◌-◌, List, length, take, drop, arith, sym, ◌∙◌, ap, subst, length-drop}
use Rattle.std.specs.List.Sorted.{IsNonDecreasing, IsPermutation}
use Rattle.std.proofs.lemmas.List.{drop_at, length-take-le, take_all}
use Rattle.std.proofs.lemmas.List.Sorted.{IsNonDecreasingBy-from_sort}
use Rattle.weak_lists.proofs.TailLaws.{end_written, take-parts}
use Rattle.weak_lists.proofs.order.sort_from.Goals as goal

pub returns : goal.returns
returns c =
    let xs = c.args.numbers.now.items in
    let now = c.deref_mut.result.now in
    let from = c.args.from in
    let same : now ≡ xs = c.deref_mut.ensures.value in
    let sizes = ap (length {A = ℕ}) same in
    let sorted = c.sort_unstable.new.self in
    let rest : take (length now - from) (drop from now) ≡ drop from xs =
    take_all (length now - from) (drop from now) (omega (arith, length-drop from now))
    ∙ ap (λ (t : List ℕ). drop from t) same in
    let size : length sorted ≡ length now - from =
    omega (arith, c.sort_unstable.ensures.len, ap (length {A = ℕ}) rest, length-drop from xs, sizes) in
    let all = end_written from c.args.numbers.now.len now xs sorted same c.requires (omega (arith, sizes, c.deref_mut.ensures.len)) size in
    let last = drop_at (take from xs) sorted from (length-take-le from xs c.requires) in
    let end = ap (λ (t : List ℕ). drop from t) all ∙ last in
    let P : List ℕ → Type 0 = λ ys. IsPermutation (drop from xs) ys in
    let Q : List ℕ → Type 0 = λ ys. IsPermutation ys sorted in
    record {
      front = ap (λ (t : List ℕ). take from t) all ∙ take-parts from xs sorted c.requires;
      same = subst P (sym end) (subst Q rest c.sort_unstable.ensures.permutation);
      rising = subst (λ (ys : List ℕ). IsNonDecreasing ys) (sym end) (IsNonDecreasingBy-from_sort (λ x. x) sorted c.sort_unstable.ensures.sorted);
    }
