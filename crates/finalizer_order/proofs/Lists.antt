-- Lists that loops go along.
use Rattle.std.proofs.Common.{◌≡◌, ◌≢◌, ℕ, zero, suc, ◌+◌, ◌<◌, Bool, true, false, IsTrue, ◌⊎◌, List, [], ◌∷◌, ◌++◌, length, get_or, take, map, nat_eq, refl, sym, subst, inl, inr, arith, add-one}
use Rattle.std.specs.List.{IsDistinct, AllByRecursion}
use Rattle.std.proofs.Math.Seq.{take-suc}
use Rattle.std.proofs.lemmas.Bool.{cases_Bool, eq-eqb, ne_eqb}
use Rattle.object_model.specs.Sets.{is_in}
use Rattle.object_model.proofs.Members.{is_in-head, is_in-tail, is_in-cases, is_in-nil}

pub take-one : {X : Type 0} → (xs : List X) (i : ℕ) (d : X) → i < length xs → take (i + 1) xs ≡ take i xs ++ get_or xs i d ∷ []
take-one xs i d l = rw add-one (take-suc xs i d l)

pub in-get : (xs : List ℕ) (i : ℕ) → i < length xs → IsTrue (is_in (get_or xs i 0) xs)
in-get [] i l = absurd (omega (arith, l))
in-get (x ∷ xs) zero l = is_in-head x xs
in-get (x ∷ xs) (suc i) l = is_in-tail (get_or xs i 0) x xs (in-get xs i (omega (arith, l)))

pub in-left : (x : ℕ) (xs ys : List ℕ) → IsTrue (is_in x xs) → IsTrue (is_in x (xs ++ ys))
in-left x [] ys t = absurd (is_in-nil x t)
in-left x (z ∷ xs) ys t = elim (is_in-cases x z xs t) [
  | inl e ↦ subst (λ (k : ℕ). IsTrue (is_in k (z ∷ (xs ++ ys)))) (sym e) (is_in-head z (xs ++ ys))
  | inr u ↦ is_in-tail x z (xs ++ ys) (in-left x xs ys u)
]

pub in-right : (x : ℕ) (xs ys : List ℕ) → IsTrue (is_in x ys) → IsTrue (is_in x (xs ++ ys))
in-right x [] ys t = t
in-right x (z ∷ xs) ys t = is_in-tail x z (xs ++ ys) (in-right x xs ys t)

pub in-either : (x : ℕ) (xs ys : List ℕ) → IsTrue (is_in x (xs ++ ys)) → IsTrue (is_in x xs) ⊎ IsTrue (is_in x ys)
in-either x [] ys t = inr t
in-either x (z ∷ xs) ys t = elim (is_in-cases x z (xs ++ ys) t) [
  | inl e ↦ inl (subst (λ (k : ℕ). IsTrue (is_in k (z ∷ xs))) (sym e) (is_in-head z xs))
  | inr u ↦ elim (in-either x xs ys u) [ inl a ↦ inl (is_in-tail x z xs a) | inr b ↦ inr b ]
]

pub in-one : (x y : ℕ) → IsTrue (is_in x (y ∷ [])) → x ≡ y
in-one x y t = elim (is_in-cases x y [] t) [ inl e ↦ e | inr u ↦ absurd (is_in-nil x u) ]

pub clash : (b : Bool) → b ≡ true → b ≡ false → ⊥
clash b t f = cc

pub in-taken : {X : Type 0} → (f : X → ℕ) (xs : List X) (i x : ℕ) → IsTrue (is_in x (map f (take i xs))) → IsTrue (is_in x (map f xs))
in-taken f [] zero x t = t
in-taken f [] (suc i) x t = t
in-taken f (y ∷ xs) zero x t = absurd (is_in-nil x t)
in-taken f (y ∷ xs) (suc i) x t = elim (is_in-cases x (f y) (map f (take i xs)) t) [
  | inl e ↦ subst (λ (k : ℕ). IsTrue (is_in k (f y ∷ map f xs))) (sym e) (is_in-head (f y) (map f xs))
  | inr u ↦ is_in-tail x (f y) (map f xs) (in-taken f xs i x u)
]

pub in-mapped : {X : Type 0} → (f : X → ℕ) (xs : List X) (i : ℕ) (d : X) → i < length xs → IsTrue (is_in (f (get_or xs i d)) (map f xs))
in-mapped f [] i d l = absurd (omega (arith, l))
in-mapped f (y ∷ xs) zero d l = is_in-head (f y) (map f xs)
in-mapped f (y ∷ xs) (suc i) d l = is_in-tail (f (get_or xs i d)) (f y) (map f xs) (in-mapped f xs i d (omega (arith, l)))

-- Lists in which none stands twice.

apart-from : (x : ℕ) (ys : List ℕ) → ((y : ℕ) → IsTrue (is_in y ys) → x ≢ y) → AllByRecursion (λ y. nat_eq x y ≡ false) ys
apart-from x [] ne = tt
apart-from x (y ∷ ys) ne = (ne_eqb x y (ne y (is_in-head y ys)), apart-from x ys (λ z t. ne z (is_in-tail z y ys t)))

pub not-in : (x : ℕ) (ys : List ℕ) → AllByRecursion (λ y. nat_eq x y ≡ false) ys → is_in x ys ≡ false
not-in x [] all = refl
not-in x (y ∷ ys) all = elim (cases_Bool (is_in x (y ∷ ys))) [
  | inl t ↦ absurd (elim (is_in-cases x y ys t) [
    | inl e ↦ clash (nat_eq x y) (eq-eqb x y e) all.0
    | inr u ↦ clash (is_in x ys) u (not-in x ys all.1)
  ])
  | inr f ↦ f
]

pub distinct-tail : (x : ℕ) (xs : List ℕ) → IsDistinct nat_eq (x ∷ xs) → (is_in x xs ≡ false) × IsDistinct nat_eq xs
unfolding IsDistinct
distinct-tail x xs d = (not-in x xs d.0, d.1)

pub distinct-cons : (x : ℕ) (xs : List ℕ) → is_in x xs ≡ false → IsDistinct nat_eq xs → IsDistinct nat_eq (x ∷ xs)
unfolding IsDistinct
distinct-cons x xs out d = (apart-from x xs (λ y t e. clash (is_in x xs) (subst (λ (k : ℕ). IsTrue (is_in k xs)) (sym e) t) out), d)

pub distinct-nil : IsDistinct nat_eq []
unfolding IsDistinct
distinct-nil = tt

pub distinct-append : (xs ys : List ℕ) → IsDistinct nat_eq xs → IsDistinct nat_eq ys → ((x : ℕ) → IsTrue (is_in x xs) → IsTrue (is_in x ys) → ⊥) → IsDistinct nat_eq (xs ++ ys)
distinct-append [] ys d e apart = e
distinct-append (x ∷ xs) ys d e apart =
    let t = distinct-tail x xs d in
    let out : is_in x (xs ++ ys) ≡ false = elim (cases_Bool (is_in x (xs ++ ys))) [
      | inl u ↦ absurd (elim (in-either x xs ys u) [ inl a ↦ clash (is_in x xs) a t.0 | inr b ↦ apart x (is_in-head x xs) b ])
      | inr f ↦ f
    ] in
    distinct-cons x (xs ++ ys) out (distinct-append xs ys t.1 e (λ y a b. apart y (is_in-tail y x xs a) b))
