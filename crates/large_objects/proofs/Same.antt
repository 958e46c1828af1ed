-- Lists that have the same extents, each as often: what a permutation is to these proofs.
use Rattle.std.proofs.Common.{◌≡◌, ℕ, ◌+◌, ◌<◌, inl, inr, Bool, cond, eqb, ◌&&◌, List, [], ◌∷◌, ◌++◌, length, length-append, refl, sym, ap, ◌∙◌, subst, arith}
use Rattle.std.specs.Prelude.{filter, sum_by}
use Rattle.std.specs.List.Sorted.{IsPermutation}
use Rattle.std.proofs.lemmas.Bool.Decides.{nat_tests}
use Rattle.std.proofs.lemmas.Bool.{cases_Bool}
use Rattle.std.proofs.lemmas.List.Sums.{sum_by-cons}
use Rattle.std.proofs.lemmas.List.Sorted.{sum_by-IsPermutation, IsPermutation-refl, IsPermutation-trans, IsPermutation-cons, IsPermutation-middle}
use Rattle.heap_space.specs.Extents.{Extent, Each, IsApart, AreApart}
use Rattle.heap_space.proofs.ExtentLaws.{Each-out, AreApart-out}

-- 1 where the extents are the same
abbrev pub one : Extent → Extent → ℕ
one x y = cond (eqb x.0 y.0 && eqb x.1 y.1) 1 0

-- how often x is among them
abbrev pub count : Extent → List Extent → ℕ
count x [] = 0
count x (y ∷ ys) = one x y + count x ys

count-sum : (x : Extent) (ys : List Extent) → count x ys ≡ sum_by (one x) ys
count-sum x [] = refl
count-sum x (y ∷ ys) = ap (λ (n : ℕ). one x y + n) (count-sum x ys) ∙ sym (sum_by-cons (one x) y ys)

pub record Same (xs ys : List Extent) : Type 0 where
  pub as_often : (x : Extent) → count x xs ≡ count x ys

one-same : (x y : Extent) → 0 < one x y → x ≡ y
one-same x y h =
    let first : x.0 ≡ y.0 = grind (arith, nat_tests) in
    let second : x.1 ≡ y.1 = grind (arith, nat_tests) in
    ap (λ (a : ℕ). let e : Extent = (a, x.1) in e) first ∙ ap (λ (n : ℕ). let e : Extent = (y.0, n) in e) second

one-itself : (x : Extent) → one x x ≡ 1
one-itself x = grind (arith, nat_tests)

-- x stands among them
pub record Splits (x : Extent) (xs : List Extent) : Type 0 where
  pub front : List Extent
  pub back : List Extent
  pub is : xs ≡ front ++ x ∷ back

pub splits : (x : Extent) (xs : List Extent) → 0 < count x xs → Splits x xs
splits x [] h = absurd (omega (arith, h))
splits x (y ∷ ys) h = elim (cases_Bool (eqb x.0 y.0 && eqb x.1 y.1)) [
  | inl e ↦ (let some : 0 < one x y = rw e (omega arith) in
      record { front = []; back = ys; is = ap (λ (z : Extent). z ∷ ys) (sym (one-same x y some)) })
  | inr n ↦ (let none : one x y ≡ 0 = rw n refl in
      let rest = splits x ys (omega (arith, h, none)) in
      record { front = y ∷ rest.front; back = rest.back; is = ap (λ (zs : List Extent). y ∷ zs) rest.is })
]

pub count-append : (x : Extent) (xs ys : List Extent) → count x (xs ++ ys) ≡ count x xs + count x ys
count-append x [] ys = omega arith
count-append x (z ∷ xs) ys = omega (arith, count-append x xs ys)

pub count-middle : (x y : Extent) (fs ls : List Extent) → count x (fs ++ y ∷ ls) ≡ one x y + count x (fs ++ ls)
count-middle x y fs ls = omega (arith, count-append x fs (y ∷ ls), count-append x fs ls)

-- without one that both have
pub same-out : (x : Extent) (fs ls ys : List Extent) → Same (fs ++ x ∷ ls) (x ∷ ys) → Same (fs ++ ls) ys
same-out x fs ls ys s = record { as_often = λ z. omega (arith, count-middle z x fs ls, s.as_often z) }

-- the second list's first is in the first
pub same-splits : (x : Extent) (xs ys : List Extent) → Same xs (x ∷ ys) → Splits x xs
same-splits x xs ys s = splits x xs (omega (arith, s.as_often x, one-itself x))

pub same-none : (xs : List Extent) → Same xs [] → xs ≡ []
same-none [] s = refl
same-none (x ∷ xs) s = absurd (omega (arith, s.as_often x, one-itself x))

-- what holds of each of the first holds of each of the second

pub Each-same : (P : Extent → Type 0) (xs ys : List Extent) → Same xs ys → Each P xs → Each P ys
Each-same P xs [] s all = tt
Each-same P xs (y ∷ ys) s all =
    let at = same-splits y xs ys s in
    let parts : P y × Each P (at.front ++ at.back) = Each-out P at.front at.back y (subst (λ (zs : List Extent). Each P zs) at.is all) in
    let rest : Same (at.front ++ at.back) ys = same-out y at.front at.back ys (subst (λ (zs : List Extent). Same zs (y ∷ ys)) at.is s) in
    (parts.0, Each-same P (at.front ++ at.back) ys rest parts.1)

pub AreApart-same : (xs ys : List Extent) → Same xs ys → AreApart xs → AreApart ys
AreApart-same xs [] s all = tt
AreApart-same xs (y ∷ ys) s all =
    let at = same-splits y xs ys s in
    let parts : AreApart (y ∷ (at.front ++ at.back)) = AreApart-out at.front at.back y (subst (λ (zs : List Extent). AreApart zs) at.is all) in
    let rest : Same (at.front ++ at.back) ys = same-out y at.front at.back ys (subst (λ (zs : List Extent). Same zs (y ∷ ys)) at.is s) in
    (Each-same (IsApart y) (at.front ++ at.back) ys rest parts.0, AreApart-same (at.front ++ at.back) ys rest parts.1)

pub length-same : (xs ys : List Extent) → Same xs ys → length xs ≡ length ys
length-same xs [] s = ap (length {A = Extent}) (same-none xs s)
length-same xs (y ∷ ys) s =
    let at = same-splits y xs ys s in
    let rest : Same (at.front ++ at.back) ys = same-out y at.front at.back ys (subst (λ (zs : List Extent). Same zs (y ∷ ys)) at.is s) in
    omega (arith, ap (length {A = Extent}) at.is, length-append at.front (y ∷ at.back), length-append at.front at.back, length-same (at.front ++ at.back) ys rest)

count-filter-itself : (p : Extent → Bool) (x : Extent) (ys : List Extent) → count x (filter p ys) ≡ cond (p x) (count x ys) 0
    → count x (filter p (x ∷ ys)) ≡ cond (p x) (count x (x ∷ ys)) 0
count-filter-itself p x ys more = elim (cases_Bool (p x)) [
  | inl h ↦ (let same = rw h at more in rw h (ap (λ (n : ℕ). one x x + n) same))
  | inr h ↦ (let same = rw h at more in rw h same)
]

count-filter-other : (p : Extent → Bool) (x y : Extent) (ys : List Extent) → one x y ≡ 0 → count x (filter p ys) ≡ cond (p x) (count x ys) 0
    → count x (filter p (y ∷ ys)) ≡ cond (p x) (count x (y ∷ ys)) 0
count-filter-other p x y ys none more =
    let right : count x (y ∷ ys) ≡ count x ys = omega (arith, none) in
    let left : count x (filter p (y ∷ ys)) ≡ count x (filter p ys) =
    elim (cases_Bool (p y)) [ inl h ↦ rw h (omega (arith, none)) | inr h ↦ rw h refl ] in
    left ∙ more ∙ ap (λ (n : ℕ). cond (p x) n 0) (sym right)

count-filter : (p : Extent → Bool) (x : Extent) (xs : List Extent) → count x (filter p xs) ≡ cond (p x) (count x xs) 0
count-filter p x [] = grind arith
count-filter p x (y ∷ ys) = elim (cases_Bool (eqb x.0 y.0 && eqb x.1 y.1)) [
  | inl e ↦ (let some : 0 < one x y = rw e (omega arith) in let same : x ≡ y = one-same x y some in
      subst (λ (z : Extent). count x (filter p (z ∷ ys)) ≡ cond (p x) (count x (z ∷ ys)) 0) same (count-filter-itself p x ys (count-filter p x ys)))
  | inr n ↦ (let none : one x y ≡ 0 = rw n refl in count-filter-other p x y ys none (count-filter p x ys))
]

pub filter-same : (p : Extent → Bool) (xs ys : List Extent) → Same xs ys → Same (filter p xs) (filter p ys)
filter-same p xs ys s = record {
  as_often = λ x. count-filter p x xs ∙ ap (λ (n : ℕ). cond (p x) n 0) (s.as_often x) ∙ sym (count-filter p x ys);
}

-- as a permutation

pub same-permutation : (xs ys : List Extent) → IsPermutation xs ys → Same xs ys
same-permutation xs ys h = record { as_often = λ x. count-sum x xs ∙ sym (sum_by-IsPermutation (one x) xs ys h) ∙ sym (count-sum x ys) }

pub permutation-same : (xs ys : List Extent) → Same xs ys → IsPermutation xs ys
permutation-same xs [] s = subst (λ (zs : List Extent). IsPermutation zs []) (sym (same-none xs s)) (IsPermutation-refl [])
permutation-same xs (y ∷ ys) s =
    let at = same-splits y xs ys s in
    let rest : Same (at.front ++ at.back) ys = same-out y at.front at.back ys (subst (λ (zs : List Extent). Same zs (y ∷ ys)) at.is s) in
    let middle = IsPermutation-middle at.front y at.back in
    let more = IsPermutation-cons y (at.front ++ at.back) ys (permutation-same (at.front ++ at.back) ys rest) in
    subst (λ (zs : List Extent). IsPermutation zs (y ∷ ys)) (sym at.is) (IsPermutation-trans (at.front ++ y ∷ at.back) (y ∷ (at.front ++ at.back)) (y ∷ ys) middle more)
