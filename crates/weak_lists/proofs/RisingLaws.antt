-- A binary search tells whether a number is in a list that rises, and the end of a list was put into order.
use Rattle.std.proofs.Common.{◌≡◌, ℕ, ◌<◌, ◌≤◌, ◌⊎◌, List, ◌++◌, length, get_or, take, drop, sym, ap, ◌∙◌, subst, inl, inr, arith}
use Rattle.std.specs.Prelude.{Result, Ok, Err, is_ok, ◌==◌}
use Rattle.std.specs.Ordering.{nat_cmp}
use Rattle.std.specs.List.Sorted.{IsNonDecreasing, IsPermutation, IsBinarySearchResult}
use Rattle.std.proofs.lemmas.Bool.{cases_Bool, eq-eqb, cases_lt}
use Rattle.std.proofs.lemmas.List.{drop_at, take-append-le, take_all, take-append-drop}
use Rattle.std.proofs.lemmas.List.Folds.{list_any_at}
use Rattle.std.proofs.lemmas.List.Sorted.{searched}
use Rattle.object_model.specs.Sets.{is_in}
use Rattle.weak_lists.specs.Cleared.{TellsInOrder}
use Rattle.weak_lists.proofs.Lists.{at-index}

pub found-in : (xs : List ℕ) (a : ℕ) (r : Result ℕ ℕ) → IsNonDecreasing xs → IsBinarySearchResult (λ y. nat_cmp y a) xs r → is_ok r ≡ is_in a xs
found-in xs a (Ok i) rises found =
    let s = searched xs a (Ok i) found (λ i j l m. rises i j 0 l m) in
    sym (list_any_at (λ y. y == a) xs i 0 s.0 (eq-eqb (get_or xs i 0) a s.1))
found-in xs a (Err i) rises found =
    let s = searched xs a (Err i) found (λ i j l m. rises i j 0 l m) in
    elim (cases_Bool (is_in a xs)) [
      | inl t ↦
          let k = at-index a xs t in
          absurd (before (cases_lt k.index i) (s.1 k.index) (λ l. s.2 k.index l k.within) k.is)
      | inr f ↦ sym f
    ]
  where
    before : {k : ℕ} → (k < i) ⊎ (i ≤ k) → (k < i → get_or xs k 0 < a) → (i ≤ k → a < get_or xs k 0) → get_or xs k 0 ≡ a → ⊥
    before (inl l) low high e = let m = low l in omega (arith, m, e)
    before (inr l) low high e = let m = high l in omega (arith, m, e)

-- births that were appended, and then put into order
pub tells-in-order : (told mid new births : List ℕ) (from : ℕ) → length told ≡ from → mid ≡ told ++ births
    → take from new ≡ take from mid → IsPermutation (drop from mid) (drop from new) → IsNonDecreasing (drop from new)
    → TellsInOrder births told new
tells-in-order told mid new births from size is front same rising =
    let last : drop from mid ≡ births = ap (λ (t : List ℕ). drop from t) is ∙ drop_at told births from size in
    let first : take from mid ≡ told =
    ap (λ (t : List ℕ). take from t) is ∙ take-append-le from told births (omega arith) ∙ take_all from told (omega arith) in
    record {
      sorted = drop from new;
      just = subst (λ (xs : List ℕ). IsPermutation xs (drop from new)) last same;
      rising = rising;
      behind = sym (take-append-drop from new) ∙ ap (λ (xs : List ℕ). xs ++ drop from new) (front ∙ first);
    }
