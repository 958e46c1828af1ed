-- Tests joined, and members of lists of numbers.
use Rattle.std.specs.List.{cons_option}
use Rattle.std.proofs.Common.{◌≡◌, ℕ, ◌⊎◌, Bool, true, false, IsTrue, List, [], ◌∷◌, ◌++◌, map, Option, refl, sym, ap, ◌∙◌, subst, inl, inr, arith, ◌==◌, ◌||◌, ap₂, filter}
use Rattle.std.specs.Prelude.{◌&&◌, ◌||◌, ◌==◌, filter, filter_map, IsFalse, not}
use Rattle.std.proofs.lemmas.Bool.{cases_Bool, eq-eqb}
use Rattle.std.proofs.lemmas.Bool.Decides.{eqb_tells}
use Rattle.object_model.specs.Sets.{is_in}

pub and_first : (a b : Bool) → IsTrue (a && b) → IsTrue a
and_first true b h = refl
and_first false b h = h

pub and_second : (a b : Bool) → IsTrue (a && b) → IsTrue b
and_second true b h = h
and_second false b h = absurd (grind arith)

pub and_both : (a b : Bool) → IsTrue a → IsTrue b → IsTrue (a && b)
and_both true b p q = q
and_both false b p q = p

pub or_cases : (a b : Bool) → IsTrue (a || b) → IsTrue a ⊎ IsTrue b
or_cases true b h = inl refl
or_cases false b h = inr h

pub or_first : (a b : Bool) → IsTrue a → IsTrue (a || b)
or_first true b h = refl
or_first false b h = absurd (grind arith)

pub or_second : (a b : Bool) → IsTrue b → IsTrue (a || b)
or_second true b h = refl
or_second false b h = h

pub is_in-head : (p : ℕ) (ps : List ℕ) → IsTrue (is_in p (p ∷ ps))
is_in-head p ps = rw (eq-eqb p p refl) refl

pub is_in-tail : (p q : ℕ) (ps : List ℕ) → IsTrue (is_in p ps) → IsTrue (is_in p (q ∷ ps))
is_in-tail p q ps t = or_second (q == p) (is_in p ps) t

-- a member of a longer list is the first or one of the others
pub is_in-cases : (p q : ℕ) (ps : List ℕ) → IsTrue (is_in p (q ∷ ps)) → (p ≡ q) ⊎ IsTrue (is_in p ps)
is_in-cases p q ps t = elim (eqb_tells q p) [
  | inl e ↦ inl (sym e.1)
  | inr e ↦ inr (rw e.0 at t)
]

pub is_in-nil : (p : ℕ) → IsTrue (is_in p []) → ⊥
is_in-nil p t = let no : ⊥ = cc in no

-- two functions that agree at the members
pub map-same : {X : Type 0} → (f g : ℕ → X) (ps : List ℕ) → ((p : ℕ) → IsTrue (is_in p ps) → f p ≡ g p)
    → map f ps ≡ map g ps
map-same f g [] same = refl
map-same f g (p ∷ ps) same =
    ap₂ (λ x xs. x ∷ xs) (same p (is_in-head p ps)) (map-same f g ps (λ q t. same q (is_in-tail q p ps t)))

pub is_in-last : (ps : List ℕ) (a : ℕ) → IsTrue (is_in a (ps ++ a ∷ []))
is_in-last [] a = is_in-head a []
is_in-last (q ∷ ps) a = is_in-tail a q (ps ++ a ∷ []) (is_in-last ps a)

pub is_in-before : (ps : List ℕ) (a x : ℕ) → IsTrue (is_in x ps) → IsTrue (is_in x (ps ++ a ∷ []))
is_in-before [] a x t = absurd (is_in-nil x t)
is_in-before (q ∷ ps) a x t = elim (is_in-cases x q ps t) [
  | inl e ↦ let P : ℕ → Type 0 = λ k. IsTrue (is_in k (q ∷ (ps ++ a ∷ []))) in subst P (sym e) (is_in-head q (ps ++ a ∷ []))
  | inr u ↦ is_in-tail x q (ps ++ a ∷ []) (is_in-before ps a x u)
]

more-cases : (ps : List ℕ) (a q x : ℕ) → (x ≡ a) ⊎ IsTrue (is_in x ps) → (x ≡ a) ⊎ IsTrue (is_in x (q ∷ ps))
more-cases ps a q x (inl e) = inl e
more-cases ps a q x (inr t) = inr (is_in-tail x q ps t)

first-cases : (ps : List ℕ) (a q x : ℕ) → x ≡ q → (x ≡ a) ⊎ IsTrue (is_in x (q ∷ ps))
first-cases ps a q x e =
    inr (let P : ℕ → Type 0 = λ k. IsTrue (is_in k (q ∷ ps)) in subst P (sym e) (is_in-head q ps))

pub is_in-append : (ps : List ℕ) (a x : ℕ) → IsTrue (is_in x (ps ++ a ∷ [])) → (x ≡ a) ⊎ IsTrue (is_in x ps)
is_in-append [] a x t = is_in-cases x a [] t
is_in-append (q ∷ ps) a x t = elim (is_in-cases x q (ps ++ a ∷ []) t) [
  | inl e ↦ first-cases ps a q x e
  | inr u ↦ more-cases ps a q x (is_in-append ps a x u)
]

head-member : (test : ℕ → Bool) (p q : ℕ) (ps : List ℕ) → q ≡ p → IsTrue (is_in q (p ∷ ps))
head-member test p q ps e = let P : ℕ → Type 0 = λ k. IsTrue (is_in k (p ∷ ps)) in subst P (sym e) (is_in-head p ps)

kept-part : (test : ℕ → Bool) (p q : ℕ) (ps : List ℕ) → (IsTrue (is_in q (filter test ps)) → IsTrue (is_in q ps) × (test q ≡ true))
    → test p ≡ true → IsTrue (is_in q (p ∷ filter test ps)) → IsTrue (is_in q (p ∷ ps)) × (test q ≡ true)
kept-part test p q ps more e t = elim (is_in-cases q p (filter test ps) t) [
  | inl is ↦ (head-member test p q ps is, ap test is ∙ e)
  | inr u ↦ (is_in-tail q p ps (more u).0, (more u).1)
]

pub filter-part : (test : ℕ → Bool) (ps : List ℕ) (q : ℕ) → IsTrue (is_in q (filter test ps)) → IsTrue (is_in q ps) × (test q ≡ true)
filter-part test [] q t = absurd (is_in-nil q t)
filter-part test (p ∷ ps) q t = elim (cases_Bool (test p)) [
  | inl e ↦ kept-part test p q ps (filter-part test ps q) e (rw e at t)
  | inr e ↦ let more = filter-part test ps q (rw e at t) in (is_in-tail q p ps more.0, more.1)
]

keep-in : (test : ℕ → Bool) (p : ℕ) (ps : List ℕ) (q : ℕ) → IsTrue (is_in q (filter test ps)) → IsTrue (is_in q (filter test (p ∷ ps)))
keep-in test p ps q t = elim (cases_Bool (test p)) [
  | inl e ↦ rw e (is_in-tail q p (filter test ps) t)
  | inr e ↦ rw e t
]

pub filter-member : (test : ℕ → Bool) (ps : List ℕ) (q : ℕ) → IsTrue (is_in q ps) → test q ≡ true → IsTrue (is_in q (filter test ps))
filter-member test [] q t e = absurd (is_in-nil q t)
filter-member test (p ∷ ps) q t e = elim (is_in-cases q p ps t) [
  | inl is ↦ rw (ap test (sym is) ∙ e) (head-member test p q (filter test ps) is)
  | inr u ↦ keep-in test p ps q (filter-member test ps q u e)
]

-- a member of joined lists
pub in-left : (y : ℕ) (xs ys : List ℕ) → IsTrue (is_in y xs) → IsTrue (is_in y (xs ++ ys))
in-left y [] ys t = absurd (is_in-nil y t)
in-left y (x ∷ xs) ys t = elim (is_in-cases y x xs t) [
  | inl e ↦ let P : ℕ → Type 0 = λ k. IsTrue (is_in k (x ∷ (xs ++ ys))) in subst P (sym e) (is_in-head x (xs ++ ys))
  | inr u ↦ is_in-tail y x (xs ++ ys) (in-left y xs ys u)
]

pub in-right : (y : ℕ) (xs ys : List ℕ) → IsTrue (is_in y ys) → IsTrue (is_in y (xs ++ ys))
in-right y [] ys t = t
in-right y (x ∷ xs) ys t = is_in-tail y x (xs ++ ys) (in-right y xs ys t)

later-either : (y x : ℕ) (xs ys : List ℕ) → IsTrue (is_in y xs) ⊎ IsTrue (is_in y ys) → IsTrue (is_in y (x ∷ xs)) ⊎ IsTrue (is_in y ys)
later-either y x xs ys (inl t) = inl (is_in-tail y x xs t)
later-either y x xs ys (inr t) = inr t

pub in-either : (y : ℕ) (xs ys : List ℕ) → IsTrue (is_in y (xs ++ ys)) → IsTrue (is_in y xs) ⊎ IsTrue (is_in y ys)
in-either y [] ys t = inr t
in-either y (x ∷ xs) ys t = elim (is_in-cases y x (xs ++ ys) t) [
  | inl e ↦ inl (let P : ℕ → Type 0 = λ k. IsTrue (is_in k (x ∷ xs)) in subst P (sym e) (is_in-head x xs))
  | inr u ↦ later-either y x xs ys (in-either y xs ys u)
]

-- tests that agree on a list choose the same
pub filter-agree : (f g : ℕ → Bool) (ps : List ℕ) → ((p : ℕ) → IsTrue (is_in p ps) → f p ≡ g p) → filter f ps ≡ filter g ps
filter-agree f g [] same = refl
filter-agree f g (p ∷ ps) same =
    let more = filter-agree f g ps (λ q t. same q (is_in-tail q p ps t)) in
    let here = same p (is_in-head p ps) in
    elim (cases_Bool (g p)) [
      | inl e ↦ rw (here, e) (ap (λ (xs : List ℕ). p ∷ xs) more)
      | inr e ↦ rw (here, e) more
    ]

-- functions that agree on a list give the same
pub filter_map-agree : {X : Type 0} (f g : ℕ → Option X) (ps : List ℕ) → ((p : ℕ) → IsTrue (is_in p ps) → f p ≡ g p) → filter_map f ps ≡ filter_map g ps
filter_map-agree f g [] same = refl
filter_map-agree f g (p ∷ ps) same =
    ap₂ (λ (r : _) (rs : _). cons_option r rs) (same p (is_in-head p ps)) (filter_map-agree f g ps (λ q t. same q (is_in-tail q p ps t)))

pub not_both : (b : Bool) → IsTrue b → IsFalse b → ⊥
not_both true t f = let no : ⊥ = cc in no
not_both false t f = let no : ⊥ = cc in no

pub false-in : (x : ℕ) (xs : List ℕ) → (IsTrue (is_in x xs) → ⊥) → is_in x xs ≡ false
false-in x xs none = elim (cases_Bool (is_in x xs)) [ inl t ↦ absurd (none t) | inr f ↦ f ]

pub not-in : (x : ℕ) (xs : List ℕ) → is_in x xs ≡ false → IsTrue (is_in x xs) → ⊥
not-in x xs e t = let no : ⊥ = cc in no

-- the name of a place is among the names
pub is_in-named : (name : ℕ → ℕ) (p : ℕ) (places : List ℕ) → IsTrue (is_in p places) → IsTrue (is_in (name p) (map name places))
is_in-named name p [] t = absurd (is_in-nil p t)
is_in-named name p (q ∷ places) t = elim (is_in-cases p q places t) [
  | inl e ↦ let P : ℕ → Type 0 = λ k. IsTrue (is_in (name k) (name q ∷ map name places)) in subst P (sym e) (is_in-head (name q) (map name places))
  | inr u ↦ is_in-tail (name p) (name q) (map name places) (is_in-named name p places u)
]

pub not-true : (b : Bool) → not b ≡ true → b ≡ false
not-true true e = absurd (let no : ⊥ = cc in no)
not-true false e = refl
