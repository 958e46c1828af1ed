-- Members of joined lists.
use Rattle.std.proofs.Common.{◌≡◌, ℕ, ◌⊎◌, Bool, true, false, IsTrue, List, [], ◌∷◌, ◌++◌, filter, length, drop, refl, ap, subst, inl, inr, arith}
use Rattle.object_model.specs.Sets.{is_in}
use Rattle.object_model.proofs.Members.{is_in-head, is_in-tail, is_in-cases, is_in-nil}

pub in-either : (x : ℕ) (xs ys : List ℕ) → IsTrue (is_in x (xs ++ ys)) → IsTrue (is_in x xs) ⊎ IsTrue (is_in x ys)
in-either x [] ys t = inr t
in-either x (y ∷ xs) ys t = elim (is_in-cases x y (xs ++ ys) t) [
  | inl e ↦ inl (let P : ℕ → Type 0 = λ k. IsTrue (is_in x (k ∷ xs)) in subst P e (is_in-head x xs))
  | inr u ↦ elim (in-either x xs ys u) [ inl l ↦ inl (is_in-tail x y xs l) | inr r ↦ inr r ]
]

pub in-left : (x : ℕ) (xs ys : List ℕ) → IsTrue (is_in x xs) → IsTrue (is_in x (xs ++ ys))
in-left x [] ys t = absurd (is_in-nil x t)
in-left x (y ∷ xs) ys t = elim (is_in-cases x y xs t) [
  | inl e ↦ let P : ℕ → Type 0 = λ k. IsTrue (is_in x (k ∷ (xs ++ ys))) in subst P e (is_in-head x (xs ++ ys))
  | inr u ↦ is_in-tail x y (xs ++ ys) (in-left x xs ys u)
]

pub in-right : (x : ℕ) (xs ys : List ℕ) → IsTrue (is_in x ys) → IsTrue (is_in x (xs ++ ys))
in-right x [] ys t = t
in-right x (y ∷ xs) ys t = is_in-tail x y (xs ++ ys) (in-right x xs ys t)

pub from-filter : (test : ℕ → Bool) (x : ℕ) (xs : List ℕ) → IsTrue (is_in x (filter test xs)) → test x ≡ true
from-filter test x [] t = absurd (is_in-nil x t)
from-filter test x (y ∷ xs) t = go (test y) refl (from-filter test x xs)
  where
    go : (b : Bool) → test y ≡ b → (IsTrue (is_in x (filter test xs)) → test x ≡ true) → test x ≡ true
    go true e later = elim (is_in-cases x y (filter test xs) (let kept : filter test (y ∷ xs) ≡ y ∷ filter test xs = rw e refl in subst (λ (l : List ℕ). IsTrue (is_in x l)) kept t)) [
      | inl is ↦ rw is e
      | inr u ↦ later u
    ]
    go false e later = later (let kept : filter test (y ∷ xs) ≡ filter test xs = rw e refl in subst (λ (l : List ℕ). IsTrue (is_in x l)) kept t)

-- A list that is the same without its first is empty.
pub none-left : (xs ys : List ℕ) → xs ≡ ys → ys ≡ drop 1 xs → xs ≡ []
none-left [] ys e f = refl
none-left (x ∷ xs) ys e f =
    let long : length (x ∷ xs) ≡ length ys = ap length e in
    let short : length ys ≡ length xs = ap length f in
    absurd (omega (arith, long, short))
