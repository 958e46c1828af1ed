-- Members of lists that are joined, mapped and filtered.
use Rattle.std.proofs.Common.{◌≡◌, ℕ, zero, suc, ◌<◌, IsTrue, List, [], ◌∷◌, ◌++◌, map, length, get_or, take, drop, refl, sym, subst, inl, inr, arith}
use Rattle.object_model.specs.Sets.{is_in}
use Rattle.object_model.proofs.Members.{is_in-head, is_in-tail, is_in-cases, is_in-nil}

-- a member of a mapped list comes from one of the list
pub record IsMapped (f : ℕ → ℕ) (q : ℕ) (ps : List ℕ) : Type 0 where
  pub from : ℕ
  pub there : IsTrue (is_in from ps)
  pub is : q ≡ f from

pub mapped-from : (f : ℕ → ℕ) (q : ℕ) (ps : List ℕ) → IsTrue (is_in q (map f ps)) → IsMapped f q ps
mapped-from f q [] t = absurd (is_in-nil q t)
mapped-from f q (p ∷ ps) t = elim (is_in-cases q (f p) (map f ps) t) [
  | inl e ↦ record { from = p; there = is_in-head p ps; is = e }
  | inr u ↦ let m = mapped-from f q ps u in record { from = m.from; there = is_in-tail m.from p ps m.there; is = m.is }
]

-- the member at an index
pub in-at : (xs : List ℕ) (i : ℕ) → i < length xs → IsTrue (is_in (get_or xs i 0) xs)
in-at [] i l = absurd (omega (arith, l))
in-at (x ∷ xs) zero l = is_in-head x xs
in-at (x ∷ xs) (suc i) l = is_in-tail (get_or xs i 0) x xs (in-at xs i (omega (arith, l)))

-- and a member has an index
pub record IsAt (x : ℕ) (xs : List ℕ) : Type 0 where
  pub index : ℕ
  pub within : index < length xs
  pub is : get_or xs index 0 ≡ x

pub at-index : (x : ℕ) (xs : List ℕ) → IsTrue (is_in x xs) → IsAt x xs
at-index x [] t = absurd (is_in-nil x t)
at-index x (y ∷ xs) t = elim (is_in-cases x y xs t) [
  | inl e ↦ record { index = 0; within = omega arith; is = sym e }
  | inr u ↦ let a = at-index x xs u in let low = a.within in record { index = suc a.index; within = omega (arith, low); is = a.is }
]

-- where a list is mapped so far, the element at hand is the old one
pub mapped-so-far : (f : ℕ → ℕ) (xs : List ℕ) (i : ℕ) → i < length (map f (take i xs) ++ drop i xs)
    → (i < length xs) × (get_or (map f (take i xs) ++ drop i xs) i 0 ≡ get_or xs i 0)
mapped-so-far f [] zero l = absurd (omega (arith, l))
mapped-so-far f [] (suc i) l = absurd (omega (arith, l))
mapped-so-far f (x ∷ xs) zero l = (omega arith, refl)
mapped-so-far f (x ∷ xs) (suc i) l = let rest = mapped-so-far f xs i (omega (arith, l)) in let low = rest.0 in (omega (arith, low), rest.1)

pub from-take : (x : ℕ) (i : ℕ) (xs : List ℕ) → IsTrue (is_in x (take i xs)) → IsTrue (is_in x xs)
from-take x i [] t = t-none i t
  where
    t-none : (i : ℕ) → IsTrue (is_in x (take i [])) → IsTrue (is_in x [])
    t-none zero t = t
    t-none (suc i) t = t
from-take x zero (y ∷ xs) t = absurd (is_in-nil x t)
from-take x (suc i) (y ∷ xs) t = elim (is_in-cases x y (take i xs) t) [
  | inl e ↦ let P : ℕ → Type 0 = λ k. IsTrue (is_in x (k ∷ xs)) in subst P e (is_in-head x xs)
  | inr u ↦ is_in-tail x y xs (from-take x i xs u)
]
