-- Places that pass a test, and those that do not.
use Rattle.std.proofs.Common.{◌≡◌, ℕ, zero, suc, ◌<◌, Bool, true, false, IsTrue, List, [], ◌∷◌, ◌++◌, map, length, refl, sym, ap, subst, inl, inr, arith}
use Rattle.std.specs.Prelude.{not, filter, slice_index_or, Contains}
use Rattle.std.specs.List.Sorted.{IsPermutation}
use Rattle.std.proofs.lemmas.Bool.{cases_Bool}
use Rattle.std.proofs.lemmas.List.{map-append, append_assoc}
use Rattle.std.proofs.lemmas.List.Sorted.{IsPermutation-map, IsPermutation-filter_both, IsPermutation-append_left}
use Rattle.heap_space.specs.Extents.{Extent}
use Rattle.large_objects.proofs.Same.{filter-same, same-permutation, permutation-same}
use Rattle.object_model.proofs.Members.{is_in-head, is_in-tail, filter-member}
use Rattle.object_model.specs.Sets.{is_in}

-- two tests in either order
pub filter_swap : (f g : ℕ → Bool) (xs : List ℕ) → filter f (filter g xs) ≡ filter g (filter f xs)
filter_swap f g [] = refl
filter_swap f g (x ∷ xs) = go (f x) (g x) refl refl (filter_swap f g xs)
  where
    go : (a b : Bool) → f x ≡ a → g x ≡ b → filter f (filter g xs) ≡ filter g (filter f xs) → filter f (filter g (x ∷ xs)) ≡ filter g (filter f (x ∷ xs))
    go true true a b more = rw b (rw a (rw b (ap (λ (ys : List ℕ). x ∷ ys) more)))
    go true false a b more = rw b (rw a (rw b more))
    go false true a b more = rw b (rw a more)
    go false false a b more = rw b (rw a more)

-- all pass
pub filter_all : {X : Type 0} (f : X → Bool) (xs : List X) → ((x : X) → f x ≡ true) → filter f xs ≡ xs
filter_all f [] all = refl
filter_all f (x ∷ xs) all = rw (all x) (ap (λ (ys : List _). x ∷ ys) (filter_all f xs all))

pub filter_every : (f : ℕ → Bool) (xs : List ℕ) → ((x : ℕ) → IsTrue (is_in x xs) → f x ≡ true) → filter f xs ≡ xs
filter_every f [] all = refl
filter_every f (x ∷ xs) all = rw (all x (is_in-head x xs)) (ap (λ (ys : List ℕ). x ∷ ys) (filter_every f xs (λ y t. all y (is_in-tail y x xs t))))

pub filter_none : (f : ℕ → Bool) (xs : List ℕ) → ((x : ℕ) → IsTrue (is_in x xs) → f x ≡ false) → filter f xs ≡ []
filter_none f [] all = refl
filter_none f (x ∷ xs) all = rw (all x (is_in-head x xs)) (filter_none f xs (λ y t. all y (is_in-tail y x xs t)))

-- what a list of objects is read at
pub filter_at : {X : Type 0} (read : ℕ → X) (test : X → Bool) (passes : ℕ → Bool) (ps : List ℕ)
    → ((p : ℕ) → IsTrue (is_in p ps) → test (read p) ≡ passes p) → filter test (map read ps) ≡ map read (filter passes ps)
filter_at read test passes [] same = refl
filter_at read test passes (p ∷ ps) same =
    let more = filter_at read test passes ps (λ q t. same q (is_in-tail q p ps t)) in
    let here = same p (is_in-head p ps) in
    elim (cases_Bool (passes p)) [
      | inl e ↦ rw (here, e) (ap (λ (os : List _). read p ∷ os) more)
      | inr e ↦ rw (here, e) more
    ]

-- those that pass are still a permutation
abbrev as_extent : ℕ → Extent
as_extent a = (a, 0)

abbrev first_of : Extent → ℕ
first_of x = x.0

firsts-of : (f : ℕ → Bool) (xs : List ℕ) → map first_of (filter (λ x. f x.0) (map as_extent xs)) ≡ filter f xs
firsts-of f [] = refl
firsts-of f (x ∷ xs) = elim (cases_Bool (f x)) [
  | inl e ↦ rw e (ap (λ (ys : List ℕ). x ∷ ys) (firsts-of f xs))
  | inr e ↦ rw e (firsts-of f xs)
]

pub filter_permuted : (f : ℕ → Bool) (xs ys : List ℕ) → IsPermutation xs ys → IsPermutation (filter f xs) (filter f ys)
filter_permuted f xs ys same =
    let there = filter-same (λ x. f x.0) (map as_extent xs) (map as_extent ys) (same-permutation (map as_extent xs) (map as_extent ys) (IsPermutation-map as_extent xs ys same)) in
    let back = IsPermutation-map first_of (filter (λ x. f x.0) (map as_extent xs)) (filter (λ x. f x.0) (map as_extent ys)) (permutation-same _ _ there) in
    subst (λ (zs : List ℕ). IsPermutation (filter f xs) zs) (firsts-of f ys) (subst (λ (zs : List ℕ). IsPermutation zs (map first_of (filter (λ x. f x.0) (map as_extent ys)))) (firsts-of f xs) back)

-- the blocks of all, as those of one kind and then those of the other
pub parts_permuted : (block : ℕ → Extent) (f : ℕ → Bool) (xs : List ℕ) (rest : List Extent)
    → IsPermutation (map block xs ++ rest) (map block (filter (λ x. not (f x)) xs) ++ (map block (filter f xs) ++ rest))
parts_permuted block f xs rest =
    let both : IsPermutation xs (filter (λ x. not (f x)) xs ++ filter f xs) = IsPermutation-filter_both (λ x. not (f x)) f (λ x. sym (twice (f x))) xs in
    let blocks : IsPermutation (map block xs) (map block (filter (λ x. not (f x)) xs) ++ map block (filter f xs)) =
    subst (λ (zs : List Extent). IsPermutation (map block xs) zs) (map-append block (filter (λ x. not (f x)) xs) (filter f xs))
    (IsPermutation-map block xs (filter (λ x. not (f x)) xs ++ filter f xs) both) in
    subst (λ (zs : List Extent). IsPermutation (map block xs ++ rest) zs) (append_assoc (map block (filter (λ x. not (f x)) xs)) (map block (filter f xs)) rest)
    (IsPermutation-append_left rest (map block xs) (map block (filter (λ x. not (f x)) xs) ++ map block (filter f xs)) blocks)
  where
    twice : (b : Bool) → not (not b) ≡ b
    twice true = refl
    twice false = refl

-- a member
pub contains_is_in : (xs : List ℕ) (x : ℕ) → Contains xs x → IsTrue (is_in x xs)
contains_is_in [] x c = absurd (omega (arith, c.1))
contains_is_in (y ∷ ys) x c = go (λ d. contains_is_in ys x d) c.0 c.1 c.2
  where
    go : (Contains ys x → IsTrue (is_in x ys)) → (k : ℕ) → k < length (y ∷ ys) → slice_index_or (y ∷ ys) k x ≡ x → IsTrue (is_in x (y ∷ ys))
    go more zero l e = let same : y ≡ x = e in subst (λ (z : ℕ). IsTrue (is_in z (y ∷ ys))) same (is_in-head y ys)
    go more (suc k) l e = is_in-tail x y ys (more (k, omega (arith, l), e))

pub among_filtered : (test : ℕ → Bool) (ps qs : List ℕ) → ((p : ℕ) → IsTrue (is_in p qs) → IsTrue (is_in p ps)) → ((p : ℕ) → IsTrue (is_in p qs) → test p ≡ true)
    → (p : ℕ) → IsTrue (is_in p qs) → IsTrue (is_in p (filter test ps))
among_filtered test ps qs among passes p t = filter-member test ps p (among p t) (passes p t)
