-- Lists of numbers that differ, with the same members, are one in another order.
use Rattle.std.proofs.Common.{◌≡◌, ℕ, Bool, false, IsTrue, List, [], ◌∷◌, ◌++◌, map, nat_eq, refl, sym, ap, subst, inl, inr}
use Rattle.std.specs.List.{IsDistinct, AllByRecursion}
use Rattle.std.specs.Prelude.{filter}
use Rattle.std.specs.List.Sorted.{IsPermutation}
use Rattle.std.proofs.lemmas.Bool.{cases_Bool}
use Rattle.std.proofs.lemmas.Bool.Decides.{eqb_tells}
use Rattle.std.proofs.lemmas.List.Sorted.{IsPermutation-refl, IsPermutation-cons, IsPermutation-middle, IsPermutation-trans, IsPermutation-sym}
use Rattle.object_model.proofs.Members.{is_in-head, is_in-tail, is_in-cases, is_in-nil, in-either, in-left, in-right, false-in, not-in, is_in-named}
use Rattle.object_model.specs.Sets.{is_in, AreDifferent}

-- a list with x in it, taken apart
pub record IsSplit (x : ℕ) (ys : List ℕ) : Type 0 where
  pub front : List ℕ
  pub back : List ℕ
  pub is : ys ≡ front ++ x ∷ back

split-at : (x : ℕ) (ys : List ℕ) → IsTrue (is_in x ys) → IsSplit x ys
split-at x [] t = absurd (is_in-nil x t)
split-at x (y ∷ ys) t = elim (is_in-cases x y ys t) [
  | inl e ↦ record { front = []; back = ys; is = ap (λ (k : ℕ). k ∷ ys) (sym e) }
  | inr u ↦ let s = split-at x ys u in record { front = y ∷ s.front; back = s.back; is = ap (λ (zs : List ℕ). y ∷ zs) s.is }
]

nil-same : (ys : List ℕ) → ((y : ℕ) → IsTrue (is_in y ys) → IsTrue (is_in y [])) → ys ≡ []
nil-same [] same = refl
nil-same (y ∷ ys) same = absurd (is_in-nil y (same y (is_in-head y ys)))

-- the rest differs still, and x is not in it
differ-drop : (x : ℕ) (fs ls : List ℕ) → AreDifferent (fs ++ x ∷ ls) → AreDifferent (fs ++ ls) × (is_in x (fs ++ ls) ≡ false)
differ-drop x [] ls d = (d.1, d.0)
differ-drop x (f ∷ fs) ls d =
    let more = differ-drop x fs ls d.1 in (
      (
        false-in f (fs ++ ls) (λ t. not-in f (fs ++ x ∷ ls) d.0 (elim (in-either f fs ls t) [
          | inl u ↦ in-left f fs (x ∷ ls) u
          | inr u ↦ in-right f fs (x ∷ ls) (is_in-tail f x ls u)
        ])),
        more.0,
      ),
      false-in x (f ∷ (fs ++ ls)) (λ t. elim (is_in-cases x f (fs ++ ls) t) [
        | inl e ↦ not-in f (fs ++ x ∷ ls) d.0 (in-right f fs (x ∷ ls) (let P : ℕ → Type 0 = λ k. IsTrue (is_in k (x ∷ ls)) in subst P e (is_in-head x ls)))
        | inr u ↦ not-in x (fs ++ ls) more.1 u
      ]),
    )

pub same_members : (xs ys : List ℕ) → AreDifferent xs → AreDifferent ys → ((x : ℕ) → IsTrue (is_in x xs) → IsTrue (is_in x ys))
    → ((y : ℕ) → IsTrue (is_in y ys) → IsTrue (is_in y xs)) → IsPermutation xs ys
same_members [] ys dx dy to from = subst (IsPermutation []) (sym (nil-same ys from)) (IsPermutation-refl [])
same_members (x ∷ xs) ys dx dy to from =
    let s = split-at x ys (to x (is_in-head x xs)) in
    let d = differ-drop x s.front s.back (subst AreDifferent s.is dy) in
    let middle : IsPermutation (s.front ++ x ∷ s.back) (x ∷ (s.front ++ s.back)) = IsPermutation-middle s.front x s.back in
    let rest : IsPermutation xs (s.front ++ s.back) = same_members xs (s.front ++ s.back) dx.1 d.0
    (λ k t. let u = subst (λ (l : List ℕ). IsTrue (is_in k l)) s.is (to k (is_in-tail k x xs t)) in elim (in-either k s.front (x ∷ s.back) u) [
      | inl a ↦ in-left k s.front s.back a
      | inr b ↦ elim (is_in-cases k x s.back b) [
        | inl e ↦ absurd (not-in x xs dx.0 (let P : ℕ → Type 0 = λ z. IsTrue (is_in z xs) in subst P e t))
        | inr c ↦ in-right k s.front s.back c
      ]
    ])
    (λ k t. let u : IsTrue (is_in k (x ∷ xs)) = from k (subst (λ (l : List ℕ). IsTrue (is_in k l)) (sym s.is) (elim (in-either k s.front s.back t) [
      | inl a ↦ in-left k s.front (x ∷ s.back) a
      | inr b ↦ in-right k s.front (x ∷ s.back) (is_in-tail k x s.back b)
    ])) in elim (is_in-cases k x xs u) [
      | inl e ↦ absurd (not-in x (s.front ++ s.back) d.1 (let P : ℕ → Type 0 = λ z. IsTrue (is_in z (s.front ++ s.back)) in subst P e t))
      | inr c ↦ c
    ]) in
    subst (IsPermutation (x ∷ xs)) (sym s.is) (IsPermutation-trans (x ∷ xs) (x ∷ (s.front ++ s.back)) (s.front ++ x ∷ s.back)
    (IsPermutation-cons x xs (s.front ++ s.back) rest) (IsPermutation-sym (s.front ++ x ∷ s.back) (x ∷ (s.front ++ s.back)) middle))

all-not : (x : ℕ) (xs : List ℕ) → AllByRecursion (λ y. nat_eq x y ≡ false) xs → is_in x xs ≡ false
all-not x [] all = refl
all-not x (y ∷ ys) all = false-in x (y ∷ ys) (λ t. elim (is_in-cases x y ys t) [
  | inl e ↦ let P : ℕ → Type 0 = λ k. nat_eq x k ≡ false in let z : nat_eq x x ≡ false = subst P (sym e) all.0 in same-not x z
  | inr u ↦ not-in x ys (all-not x ys all.1) u
])
  where
    same-not : (k : ℕ) → nat_eq k k ≡ false → ⊥
    same-not k z = elim (eqb_tells k k) [
      | inl e ↦ let no : ⊥ = cc in no
      | inr e ↦ e.1 refl
    ]

-- names that differ are those of places that differ
pub names_differ : (name : ℕ → ℕ) (ps : List ℕ) → IsDistinct nat_eq (map name ps) → AreDifferent ps
unfolding IsDistinct
names_differ name [] d = tt
names_differ name (p ∷ ps) d = (false-in p ps (λ t. not-in (name p) (map name ps) (all-not (name p) (map name ps) d.0) (is_in-named name p ps t)), names_differ name ps d.1)

-- and so is each part of them
pub part_differs : (test : ℕ → Bool) (ps : List ℕ) → AreDifferent ps → AreDifferent (filter test ps)
part_differs test [] d = tt
part_differs test (p ∷ ps) d = elim (cases_Bool (test p)) [
  | inl e ↦ rw e (false-in p (filter test ps) (λ t. not-in p ps d.0 (in-part test p ps t)), part_differs test ps d.1)
  | inr e ↦ rw e (part_differs test ps d.1)
]
  where
    in-part : (f : ℕ → Bool) (q : ℕ) (qs : List ℕ) → IsTrue (is_in q (filter f qs)) → IsTrue (is_in q qs)
    in-part f q [] t = t
    in-part f q (r ∷ qs) t = elim (cases_Bool (f r)) [
      | inl e ↦ elim (is_in-cases q r (filter f qs) (rw e at t)) [
        | inl is ↦ let P : ℕ → Type 0 = λ k. IsTrue (is_in k (r ∷ qs)) in subst P (sym is) (is_in-head r qs)
        | inr u ↦ is_in-tail q r qs (in-part f q qs u)
      ]
      | inr e ↦ is_in-tail q r qs (in-part f q qs (rw e at t))
    ]
