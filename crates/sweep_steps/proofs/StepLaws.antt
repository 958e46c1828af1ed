-- Steps whose births were put in order.
use Rattle.std.proofs.Common.{◌≡◌, ℕ, List, ◌++◌, length, take, drop, arith, sym, ◌∙◌, ap, subst}
use Rattle.std.specs.List.Sorted.{IsNonDecreasing, IsPermutation}
use Rattle.std.proofs.lemmas.List.{drop_at, take-append-le, take_all, take-append-drop}
use Rattle.heap_space.specs.Memory.{Memory}
use Rattle.sweep_steps.specs.Steps.{Step, Sweeps, HasSwept}

pub swept-sorted : {S : Type 0} (step : Step S) (count : ℕ) (a : S) (k : Memory) (b : S) (m : Memory)
    (old mid new births : List ℕ) (from : ℕ) → length old ≡ from → Sweeps step count a k b m births → mid ≡ old ++ births
    → take from new ≡ take from mid → IsPermutation (drop from mid) (drop from new) → IsNonDecreasing (drop from new)
    → HasSwept step count a k b m old new
swept-sorted step count a k b m old mid new births from size steps is front same rising =
    let last : drop from mid ≡ births = ap (λ (t : List ℕ). drop from t) is ∙ drop_at old births from size in
    let first : take from mid ≡ old =
    ap (λ (t : List ℕ). take from t) is ∙ take-append-le from old births (omega arith) ∙ take_all from old (omega arith) in
    record {
      births = births;
      sorted = drop from new;
      steps = steps;
      same = subst (λ (xs : List ℕ). IsPermutation xs (drop from new)) last same;
      rising = rising;
      behind = sym (take-append-drop from new) ∙ ap (λ (xs : List ℕ). xs ++ drop from new) (front ∙ first);
    }
