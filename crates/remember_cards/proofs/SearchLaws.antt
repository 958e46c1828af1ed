-- A place is looked for among sorted ones, and a set that has what a list has.
use Rattle.std.proofs.Common.{◌≡◌, ℕ, ◌<◌, ◌≤◌, Bool, true, false, nat_eq, List, [], ◌∷◌, ◌++◌, length, get_or, Result, Ok, Err, is_ok, refl, sym, ap, ap₂, ◌∙◌, arith, subst, inl, inr}
use Rattle.std.specs.Prelude.{IsSorted, ◌==◌, ◌||◌, not}
use Rattle.std.specs.Ordering.{nat_cmp}
use Rattle.std.specs.List.{list_any}
use Rattle.std.specs.List.Sorted.{IsBinarySearchResult}
use Rattle.std.proofs.lemmas.Bool.{eq-eqb, ne_eqb}
use Rattle.std.proofs.lemmas.Bool.Decides.{nat_tests}
use Rattle.std.proofs.lemmas.Bool.{cases_order}
use Rattle.std.proofs.lemmas.List.{get_or_default}
use Rattle.std.proofs.lemmas.List.Folds.{list_any_at, list_any_none}
use Rattle.std.proofs.lemmas.List.Sorted.{searched, IsNonDecreasingBy-from_sort}
use Rattle.indexmap.specs.IndexSet.{insert_key}
use Rattle.object_model.specs.Sets.{is_in, AreDifferent}
use Rattle.remember_cards.specs.Entries.{AreKept}
use Rattle.remember_cards.proofs.OrderLaws.{differ_push}

pub found_among : (dead : List ℕ) (x : ℕ) (r : Result ℕ ℕ) → IsSorted nat_cmp dead → IsBinarySearchResult (λ y. nat_cmp y x) dead r → is_ok r ≡ is_in x dead
found_among dead x (Ok i) sorted h =
    let s = searched dead x (Ok i) h (λ a b le lt. IsNonDecreasingBy-from_sort (λ y. y) dead sorted a b 0 le lt) in
    sym (list_any_at (λ y. y == x) dead i 0 s.0 (eq-eqb (get_or dead i 0) x s.1))
found_among dead x (Err i) sorted h =
    let s = searched dead x (Err i) h (λ a b le lt. IsNonDecreasingBy-from_sort (λ y. y) dead sorted a b 0 le lt) in
    sym (list_any_none (λ y. y == x) dead (λ k d within. other k d within (s.1 k) (λ le. s.2 k le within)))
  where
    other : (k d : ℕ) → k < length dead → (k < i → get_or dead k 0 < x) → (i ≤ k → x < get_or dead k 0) → (get_or dead k d == x) ≡ false
    other k d within low high = let same = get_or_default dead k d 0 within in ne_eqb (get_or dead k d) x (λ e.
        elim (cases_order k i) [
          | inl at ↦ absurd (omega (arith, same, e, high (omega (arith, at))))
          | inr (inl before) ↦ absurd (omega (arith, same, e, low before))
          | inr (inr behind) ↦ absurd (omega (arith, same, e, high (omega (arith, behind))))
        ])

eq-turned : (c y : ℕ) → (y == c) ≡ nat_eq c y
eq-turned c y = grind (arith, nat_tests)

-- the set's test is that of the list of its keys
pub in_keys : (p : ℕ) (keys : List ℕ) → is_in p keys ≡ list_any (nat_eq p) keys
in_keys p [] = refl
in_keys p (k ∷ keys) = ap₂ (λ (a b : Bool). a || b) (eq-turned p k) (in_keys p keys)

-- one more place is kept
pub kept_more : (keys order keys' order' : List ℕ) (p : ℕ) → AreKept keys order → list_any (nat_eq p) keys ≡ false → keys' ≡ insert_key nat_eq keys p
    → order' ≡ order ++ p ∷ [] → AreKept keys' order'
kept_more keys order keys' order' p k out inserted pushed = record {
  same = inserted ∙ (rw out (ap (λ (xs : List ℕ). xs ++ p ∷ []) k.same ∙ sym pushed));
  differ = subst AreDifferent (sym pushed) (differ_push order p k.differ (ap (is_in p) (sym k.same) ∙ (in_keys p keys ∙ out)));
}

-- what `insert` tells of the set before
pub was-absent : {there new : Bool} → new ≡ not there → new ≡ true → there ≡ false
was-absent {there} {new} e t = by there new e t
  where
    by : (there new : Bool) → new ≡ not there → new ≡ true → there ≡ false
    by true new e t = absurd (let no : ⊥ = cc in no)
    by false new e t = refl
