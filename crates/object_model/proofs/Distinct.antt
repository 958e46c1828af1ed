-- Lists of numbers that differ.
use Rattle.std.proofs.Common.{◌≡◌, ℕ, Bool, true, false, IsTrue, List, [], ◌∷◌, ◌++◌, map, nat_eq, refl, sym, ◌∙◌, subst, inl, inr, arith, ◌≢◌, ◌-◌, Option, Some, None, ap, ap₂}
use Rattle.std.specs.Prelude.{IsFalse, filter, ◌==◌, option_map, option_and_then, if◌then◌else◌}
use Rattle.std.specs.List.{IsDistinct, AllByRecursion}
use Rattle.std.proofs.lemmas.Bool.{cases_Bool, eq-eqb, ne_eqb}
use Rattle.std.proofs.lemmas.Bool.Decides.{eqb_tells, nat_tests}
use Rattle.object_model.proofs.Members.{is_in-head, is_in-tail, is_in-cases, is_in-nil}
use Rattle.object_model.specs.Sets.{is_in}

-- a number that is not among some differs from each
pub all_differ : (x : ℕ) (xs : List ℕ) → IsFalse (is_in x xs) → AllByRecursion (λ y. nat_eq x y ≡ false) xs
all_differ x [] out = tt
all_differ x (y ∷ ys) out = elim (eqb_tells y x) [
  | inl e ↦ absurd (let yes : is_in x (y ∷ ys) ≡ true = rw e.0 refl in let no : ⊥ = cc in no)
  | inr e ↦ ((let ne = e.1 in grind (arith, nat_tests)), all_differ x ys (let rest : is_in x (y ∷ ys) ≡ is_in x ys = rw e.0 refl in sym rest ∙ out))
]

-- numbers that differ, behind others
pub distinct_append : (xs ys : List ℕ) → IsDistinct nat_eq xs → IsDistinct nat_eq ys → ((x : ℕ) → IsTrue (is_in x xs) → IsFalse (is_in x ys)) → IsDistinct nat_eq (xs ++ ys)
unfolding IsDistinct
distinct_append [] ys d e apart = e
distinct_append (x ∷ xs) ys d e apart =
    (both xs d.0 (all_differ x ys (apart x (is_in-head x xs))), distinct_append xs ys d.1 e (λ z t. apart z (is_in-tail z x xs t)))
  where
    both : (zs : List ℕ) → AllByRecursion (λ y. nat_eq x y ≡ false) zs → AllByRecursion (λ y. nat_eq x y ≡ false) ys → AllByRecursion (λ y. nat_eq x y ≡ false) (zs ++ ys)
    both [] a b = b
    both (z ∷ zs) a b = (a.0, both zs a.1 b)

-- what differs from a birth is not it
pub differ-in : (x : ℕ) (ps : List ℕ) → AllByRecursion (λ y. nat_eq x y ≡ false) ps → IsTrue (is_in x ps) → ⊥
differ-in x [] all t = is_in-nil x t
differ-in x (p ∷ ps) all t = elim (is_in-cases x p ps t) [
  | inl e ↦ (let same : nat_eq x p ≡ true = eq-eqb x p e in let apart = all.0 in let no : ⊥ = cc in no)
  | inr u ↦ differ-in x ps all.1 u
]

pub apart-out : (x : ℕ) (ys : List ℕ) → AllByRecursion (λ y. nat_eq x y ≡ false) ys → IsFalse (is_in x ys)
apart-out x [] all = refl
apart-out x (y ∷ ys) all = let f = all.0 in let other : (y == x) ≡ false = grind (arith, nat_tests) in rw other (apart-out x ys all.1)

pub distinct-right : (xs ys : List ℕ) → IsDistinct nat_eq (xs ++ ys) → IsDistinct nat_eq ys
unfolding IsDistinct
distinct-right [] ys d = d
distinct-right (x ∷ xs) ys d = distinct-right xs ys d.1

-- births that differ still do where some of the last go
all-less : (f : ℕ → Type 0) (xs : List ℕ) (test : ℕ × ℕ → Bool) (g : ℕ × ℕ → ℕ) (hs : List (ℕ × ℕ)) → AllByRecursion f (xs ++ map g hs) → AllByRecursion f (xs ++ map g (filter test hs))
all-less f (x ∷ xs) test g hs all = (all.0, all-less f xs test g hs all.1)
all-less f [] test g [] all = all
all-less f [] test g (h ∷ hs) all = let more = all-less f [] test g hs all.1 in elim (cases_Bool (test h)) [ inl e ↦ rw e (all.0, more) | inr e ↦ rw e more ]

pub distinct-less : (xs : List ℕ) (test : ℕ × ℕ → Bool) (g : ℕ × ℕ → ℕ) (hs : List (ℕ × ℕ)) → IsDistinct nat_eq (xs ++ map g hs) → IsDistinct nat_eq (xs ++ map g (filter test hs))
unfolding IsDistinct
distinct-less (x ∷ xs) test g hs d = (all-less (λ y. nat_eq x y ≡ false) xs test g hs d.0, distinct-less xs test g hs d.1)
distinct-less [] test g [] d = d
distinct-less [] test g (h ∷ hs) d = let more = distinct-less [] test g hs d.1 in let first = all-less (λ y. nat_eq (g h) y ≡ false) [] test g hs d.0 in
    elim (cases_Bool (test h)) [ inl e ↦ rw e (first, more) | inr e ↦ rw e more ]

-- births of kept objects are no births of husks
all-out : (z : ℕ) (xs ys : List ℕ) → AllByRecursion (λ y. nat_eq z y ≡ false) (xs ++ ys) → IsFalse (is_in z ys)
all-out z (x ∷ xs) ys all = all-out z xs ys all.1
all-out z [] [] all = refl
all-out z [] (y ∷ ys) all = let f = all.0 in let out : (y == z) ≡ false = grind (arith, nat_tests) in rw out (all-out z [] ys all.1)

pub distinct-apart : (xs ys : List ℕ) → IsDistinct nat_eq (xs ++ ys) → (x : ℕ) → IsTrue (is_in x xs) → IsFalse (is_in x ys)
unfolding IsDistinct
distinct-apart [] ys d x t = absurd (is_in-nil x t)
distinct-apart (z ∷ xs) ys d x t = elim (is_in-cases x z xs t) [
  | inl e ↦ subst (λ (k : ℕ). IsFalse (is_in k ys)) (sym e) (all-out z xs ys d.0)
  | inr u ↦ distinct-apart xs ys d.1 x u
]

pub distinct-tail : (x : ℕ) (xs : List ℕ) → IsDistinct nat_eq (x ∷ xs) → IsDistinct nat_eq xs
unfolding IsDistinct
distinct-tail x xs d = d.1

pub distinct-head : (x : ℕ) (xs : List ℕ) → IsDistinct nat_eq (x ∷ xs) → IsFalse (is_in x xs)
unfolding IsDistinct
distinct-head x xs d = elim (cases_Bool (is_in x xs)) [ inl t ↦ absurd (differ-in x xs d.0 t) | inr f ↦ f ]
