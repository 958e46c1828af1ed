-- How often a place is among others: what distinct lists and permutations are to these proofs.
use Rattle.std.proofs.Common.{◌≡◌, ◌≢◌, ℕ, zero, suc, ◌+◌, ◌<◌, ◌≤◌, inl, inr, ◌==◌, if◌then◌else◌, List, [], ◌∷◌, ◌++◌, length, slice_index_or, arith, refl, sym, ◌∙◌, ap, subst}
use Rattle.std.proofs.lemmas.Bool.Decides.{eqb_tells, nat_tests}
use Rattle.std.specs.Prelude.{sum_by}
use Rattle.std.specs.List.Sorted.{IsPermutation, IsNonDecreasing}
use Rattle.std.proofs.lemmas.List.Sums.{sum_by-cons}
use Rattle.std.proofs.lemmas.List.Sorted.{sum_by-IsPermutation}
use Rattle.size_pages.specs.LiveBlocks.{page_at}
use Rattle.size_pages.specs.PageLists.{EachPlace, IsIn, AreDistinct, IsPage}
use Rattle.size_pages.specs.HasBlocks.{IsRising}
use Rattle.size_pages.proofs.WaitLaws.{each_in}

-- 1 where the places are the same
abbrev pub one : ℕ → ℕ → ℕ
one p x = if x == p then 1 else 0

-- how often p is among them
abbrev pub times : ℕ → List ℕ → ℕ
times p [] = 0
times p (x ∷ xs) = one p x + times p xs

one_same : (p x : ℕ) → p ≡ x → one p x ≡ 1
one_same p x e = grind (arith, nat_tests)

one_other : (p x : ℕ) → p ≢ x → one p x ≡ 0
one_other p x n = grind (arith, nat_tests)

one_few : (p x : ℕ) → one p x ≤ 1
one_few p x = grind (arith, nat_tests)

pub times_append : (p : ℕ) (xs ys : List ℕ) → times p (xs ++ ys) ≡ times p xs + times p ys
times_append p [] ys = omega arith
times_append p (x ∷ xs) ys = omega (arith, times_append p xs ys)

times_sum : (p : ℕ) (xs : List ℕ) → times p xs ≡ sum_by (one p) xs
times_sum p [] = refl
times_sum p (x ∷ xs) = ap (λ (n : ℕ). one p x + n) (times_sum p xs) ∙ sym (sum_by-cons (one p) x xs)

pub times_moved : (p : ℕ) (xs ys : List ℕ) → IsPermutation xs ys → times p ys ≡ times p xs
times_moved p xs ys h = times_sum p ys ∙ sum_by-IsPermutation (one p) xs ys h ∙ sym (times_sum p xs)

pub in_times : (p : ℕ) (xs : List ℕ) → IsIn p xs → 1 ≤ times p xs
in_times p [] i = absurd i
in_times p (x ∷ xs) i = elim i [ inl e ↦ omega (arith, one_same p x e) | inr j ↦ omega (arith, in_times p xs j) ]

pub times_in : (p : ℕ) (xs : List ℕ) → 1 ≤ times p xs → IsIn p xs
times_in p [] h = absurd (omega (arith, h))
times_in p (x ∷ xs) h = elim (eqb_tells p x) [ inl e ↦ inl e.1 | inr n ↦ inr (times_in p xs (omega (arith, h, one_other p x n.1))) ]

times_none : (p : ℕ) (xs : List ℕ) → EachPlace (λ y. p ≢ y) xs → times p xs ≡ 0
times_none p [] all = refl
times_none p (x ∷ xs) all = omega (arith, one_other p x all.0, times_none p xs all.1)

pub times_once : (p : ℕ) (xs : List ℕ) → AreDistinct xs → times p xs ≤ 1
times_once p [] h = omega arith
times_once p (x ∷ xs) h = elim (eqb_tells p x) [
  | inl e ↦ omega (arith, one_few p x, times_none p xs (subst (λ (q : ℕ). EachPlace (λ y. q ≢ y) xs) (sym e.1) h.0))
  | inr n ↦ omega (arith, one_other p x n.1, times_once p xs h.1)
]

pub each_from : (P : ℕ → Type 0) (xs : List ℕ) → ((p : ℕ) → IsIn p xs → P p) → EachPlace P xs
each_from P [] h = tt
each_from P (x ∷ xs) h = (h x (inl refl), each_from P xs (λ p i. h p (inr i)))

-- a list without a place

abbrev without : ℕ → List ℕ → List ℕ
without p [] = []
without p (x ∷ xs) = if x == p then without p xs else x ∷ without p xs

length_without : (p : ℕ) (xs : List ℕ) → length xs ≡ length (without p xs) + times p xs
length_without p [] = refl
length_without p (x ∷ xs) = grind (arith, nat_tests, length_without p xs)

times_without : (q p : ℕ) (xs : List ℕ) → times q (without p xs) ≤ times q xs
times_without q p [] = omega arith
times_without q p (x ∷ xs) = grind (arith, nat_tests, times_without q p xs)

pages_without_case : (size n x : ℕ) (xs : List ℕ) → IsPage size (suc n) x → EachPlace (IsPage size n) xs → EachPlace (IsPage size n) (if x == page_at size n then xs else x ∷ xs)
pages_without_case size n x xs is all = elim (eqb_tells x (page_at size n)) [
  | inl e ↦ rw e.0 all
  | inr m ↦ rw m.0 (record { number = is.number; below = (let low : is.number < suc n = is.below in elim (eqb_tells is.number n) [ inl e ↦ absurd (m.1 (is.is ∙ ap (page_at size) e.1)) | inr d ↦ omega (arith, low, d.1) ]); is = is.is }, all)
]

pages_without : (size n : ℕ) (xs : List ℕ) → EachPlace (IsPage size (suc n)) xs → EachPlace (IsPage size n) (without (page_at size n) xs)
pages_without size n [] all = tt
pages_without size n (x ∷ xs) all = pages_without_case size n x (without (page_at size n) xs) all.0 (pages_without size n xs all.1)

-- distinct pages are no more than there are
pub pages_few : (size n : ℕ) (xs : List ℕ) → ((p : ℕ) → times p xs ≤ 1) → EachPlace (IsPage size n) xs → length xs ≤ n
pages_few size zero [] once all = omega arith
pages_few size zero (x ∷ xs) once all = absurd (omega (arith, all.0.below))
pages_few size (suc n) xs once all =
    let p = page_at size n in
    let rest = pages_few size n (without p xs) (λ q. omega (arith, times_without q p xs, once q)) (pages_without size n xs all) in
    omega (arith, rest, length_without p xs, once p)

-- what no number behind it is below

low_each : (x : ℕ) (xs : List ℕ) → ((j : ℕ) → j < length xs → x ≤ slice_index_or xs j 0) → EachPlace (λ q. x ≤ q) xs
low_each x [] h = tt
low_each x (y ∷ ys) h = (h zero (omega arith), low_each x ys (λ j small. h (suc j) (omega (arith, small))))

pub sorted_rises : (xs : List ℕ) → IsNonDecreasing xs → ((p : ℕ) → times p xs ≤ 1) → IsRising xs
sorted_rises [] h once = tt
sorted_rises (x ∷ xs) h once =
    let low : EachPlace (λ q. x ≤ q) xs = low_each x xs (λ j small. h zero (suc j) 0 (omega arith) (omega (arith, small))) in
    let none : times x xs ≡ 0 = omega (arith, once x, one_same x x refl) in (
      each_from (λ q. x < q) xs (λ q i. elim (eqb_tells x q) [
        | inl e ↦ absurd (omega (arith, none, subst (λ (r : ℕ). 1 ≤ times r xs) (sym e.1) (in_times q xs i)))
        | inr n ↦ omega (arith, n.1, each_in (λ r. x ≤ r) xs q low i)
      ]),
      sorted_rises xs (λ i j d up small. h (suc i) (suc j) d (omega (arith, up)) (omega (arith, small))) (λ p. omega (arith, once p)),
    )
