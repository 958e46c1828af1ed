-- Whether a number is in a list: after a sort, and once each stands once.
use Rattle.std.proofs.Common.{◌≡◌, ℕ, Bool, true, false, ◌||◌, ◌==◌, ◌+◌, ◌<◌, length, get_or, take, length-take, nat_eq, List, [], ◌∷◌, Contains, sym, refl, ap, ◌∙◌, arith}
use Rattle.std.specs.List.{dedup, list_any}
use Rattle.std.specs.List.Sorted.{IsPermutation, IsStrictlyIncreasing}
use Rattle.std.specs.Cmp.{nat_eq_equiv}
use Rattle.std.proofs.lemmas.Bool.{eqb-true}
use Rattle.std.proofs.lemmas.Bool.Decides.{nat_tests}
use Rattle.std.proofs.lemmas.List.{get_or-take, get_or_default}
use Rattle.std.proofs.lemmas.List.Folds.{list_any_more, list_any_none}
use Rattle.std.proofs.lemmas.Map.Keys.{below_from_sorted, sorted_from_strictly_increasing}
use Rattle.std.proofs.lemmas.List.Sorted.{list_any-IsPermutation}
use Rattle.std.proofs.lemmas.List.Kept.{Contains-dedup_nat, Contains-from_dedup}
use Rattle.std.proofs.lemmas.Map.Views.{Contains-from_any, list_any-from_Contains}
use Rattle.object_model.specs.Sets.{is_in}
use Rattle.rawref_links.proofs.Tabled.{nat_eq-turned}

pub is_in-permutation : (number : ℕ) (xs ys : List ℕ) → IsPermutation xs ys → is_in number xs ≡ is_in number ys
is_in-permutation number xs ys same = list_any-IsPermutation (λ y. y == number) xs ys same

-- the test may be turned round
is_in-turned : (number : ℕ) (xs : List ℕ) → is_in number xs ≡ list_any (nat_eq number) xs
is_in-turned number [] = refl
is_in-turned number (x ∷ xs) = ap (λ t. t || is_in number xs) (sym (nat_eq-turned number x)) ∙ ap (λ t. nat_eq number x || t) (is_in-turned number xs)

-- a number that the test finds is in the list
pub Contains-from_is_in : (number : ℕ) (xs : List ℕ) → is_in number xs ≡ true → Contains xs number
Contains-from_is_in number xs found = Contains-from_any eqb-true number xs (sym (is_in-turned number xs) ∙ found)

pub is_in-from_Contains : (number : ℕ) (xs : List ℕ) → Contains xs number → is_in number xs ≡ true
is_in-from_Contains number xs there = is_in-turned number xs ∙ list_any-from_Contains nat_eq_equiv number xs there

-- two tests that pass together are one
pub same_tests : (a b : Bool) → (a ≡ true → b ≡ true) → (b ≡ true → a ≡ true) → a ≡ b
same_tests true b to from = sym (to refl)
same_tests false true to from = from refl
same_tests false false to from = refl

pub is_in-dedup : (number : ℕ) (xs : List ℕ) → is_in number (dedup nat_eq xs) ≡ is_in number xs
is_in-dedup number xs =
    same_tests (is_in number (dedup nat_eq xs)) (is_in number xs)
    (λ there. is_in-from_Contains number xs (Contains-from_dedup nat_eq xs number (Contains-from_is_in number (dedup nat_eq xs) there)))
    (λ there. is_in-from_Contains number (dedup nat_eq xs) (Contains-dedup_nat xs number (Contains-from_is_in number xs there)))

-- one number more
pub is_in-more : (number : ℕ) (xs : List ℕ) (i : ℕ) → i < length xs → is_in number (take (i + 1) xs) ≡ (is_in number (take i xs) || (get_or xs i 0 == number))
is_in-more number xs i within = list_any_more (λ y. y == number) xs i 0 within

-- of numbers that rise none stands twice
pub is_in-before : (xs : List ℕ) (i : ℕ) → IsStrictlyIncreasing xs → i < length xs → is_in (get_or xs i 0) (take i xs) ≡ false
is_in-before xs i rising within =
    list_any_none (λ y. y == get_or xs i 0) (take i xs)
    (λ k d inside. let below : k < i = omega (arith, length-take i xs) in
    let same : get_or (take i xs) k d ≡ get_or xs k d = get_or-take i xs k d below in
    let same_d : get_or xs k d ≡ get_or xs k 0 = get_or_default xs k d 0 (omega arith) in
    let lower : get_or xs k 0 < get_or xs i 0 = below_from_sorted xs k i 0 (sorted_from_strictly_increasing xs rising) below within in
    rw (same, same_d) (grind (arith, nat_tests)))
