-- The list of large blocks: which one has a place, and what is left when one of them is emptied or the empty ones go.
use Rattle.std.proofs.Common.{◌≡◌, ℕ, zero, suc, ◌-◌, ◌<◌, ◌≤◌, true, false, List, [], ◌∷◌, ◌++◌, length, set, get_or, map, refl, sym, ap, ◌∙◌, subst, arith, inl, inr}
use Rattle.std.proofs.lemmas.Bool.{cases_Bool, cases_eq, true≢false}
use Rattle.std.proofs.lemmas.Bool.Decides.{nat_tests}
use Rattle.std.proofs.lemmas.List.{map-append}
use Rattle.heap_space.specs.Places.{Placed, covers, end_of, has, begins, is_base, RiseTo}
use Rattle.heap_space.specs.Seats.{PartsAt, has_words, full_blocks, emptied}
use Rattle.heap_space.proofs.Blocks.{covers-inside, covers-above, is_base-has}
use Rattle.heap_space.proofs.Rising.{has-within, has-below, base-from, blocks-apart, at_index, rise-less}
use Rattle.heap_space.proofs.Seats.{both-ways}

-- which block has a place

pub bases-rise : (from end i j : ℕ) (ps : List Placed) (d : Placed) → RiseTo from ps end → i ≤ j → j < length ps
    → (get_or ps i d).base ≤ (get_or ps j d).base
bases-rise from end i j ps d r l m = elim (cases_eq i j) [
  | inl e ↦ subst (λ (k : ℕ). (get_or ps i d).base ≤ (get_or ps k d).base) e (omega arith)
  | inr ne ↦ (let lt : i < j = omega (arith, l, ne) in let a = blocks-apart from end i j ps d r lt m in omega (arith, a))
]

-- no block has the place, where all begin above it
pub has-parted_none : (from end a : ℕ) (ps : List Placed) (n : ℕ) → RiseTo from ps end → PartsAt ps a n → n ≡ 0
    → has ps a ≡ false
has-parted_none from end a [] n r parts z = refl
has-parted_none from end a (p ∷ ps) n r parts z =
    let above : a < p.base = parts.above 0 p (omega (arith, z)) (omega arith) in
    has-below p.base end a (p ∷ ps) (omega arith, r.1) above

-- else it is the last one that begins at it or below
found_at : (from end a low : ℕ) (ps : List Placed) (d : Placed) → RiseTo from ps end → has ps a ≡ true
    → low < length ps
    → (get_or ps low d).base ≤ a → (suc low < length ps → a < (get_or ps (suc low) d).base)
    → covers (get_or ps low d) a ≡ true
found_at from end a low [] d r h l b n = grind arith
found_at from end a zero (p ∷ []) d r h l b n = grind arith
found_at from end a zero (p ∷ q ∷ ps) d r h l b n =
    let m = has-below q.base end a (q ∷ ps) (omega arith, r.1.1) (n (omega arith)) in grind arith
found_at from end a (suc low) (p ∷ ps) d r h l b n =
    let m = base-from (end_of p) end low ps d r.1 (omega (arith, l)) in let e = covers-above p a (omega arith) in
    found_at (end_of p) end a low ps d r.1 (grind arith) (omega (arith, l)) b (λ m. n (omega (arith, m)))

pub covers-parted : (from end a n : ℕ) (ps : List Placed) (d : Placed) → RiseTo from ps end → PartsAt ps a n → 0 < n
    → n ≤ length ps
    → covers (get_or ps (n - 1) d) a ≡ has ps a
covers-parted from end a n ps d r parts z l =
    let low : ℕ = n - 1 in let next : suc low ≡ n = omega (arith, z) in
    both-ways (covers (get_or ps low d) a) (has ps a)
    (λ h. (at_index from end a low ps d r (omega (arith, l, z)) h).0)
    (λ h. found_at from end a low ps d r h (omega (arith, l, z)) (parts.below low d (omega (arith, z)))
    (λ m. parts.above (suc low) d (omega (arith, next)) m))

-- where a block has it, one begins at it or below
pub parted_some : (from end a n : ℕ) (ps : List Placed) → RiseTo from ps end → PartsAt ps a n → has ps a ≡ true
    → 0 < n
parted_some from end a n ps r parts h = elim (cases_eq n 0) [
  | inl z ↦ (let none = has-parted_none from end a ps n r parts z in absurd (true≢false (sym h ∙ none)))
  | inr ne ↦ omega (arith, ne)
]

-- an emptied block

emptied-none : (ps : List Placed) (a : ℕ) → has ps a ≡ false → map (emptied a) ps ≡ ps
emptied-none [] a h = refl
emptied-none (p ∷ ps) a h = grind (arith, emptied-none ps a)

pub base_at : (from end a i : ℕ) (ps : List Placed) (d : Placed) → RiseTo from ps end → i < length ps
    → covers (get_or ps i d) a ≡ true → is_base ps a ≡ true → (get_or ps i d).base ≡ a
base_at from end a i [] d r l h b = grind arith
base_at from end a zero (p ∷ ps) d r l h b =
    let n = covers-inside p a h in let m = has-below (end_of p) end a ps r.1 n.1 in
    let g = is_base-has ps a in grind (arith, nat_tests)
base_at from end a (suc i) (p ∷ ps) d r l h b =
    let m = at_index (end_of p) end a i ps d r.1 (omega (arith, l)) h in
    let w = has-within (end_of p) end a ps r.1 m.0 in let n = covers-above p a w.0 in
    base_at (end_of p) end a i ps d r.1 (omega (arith, l)) h (grind arith)

abbrev bare : Placed → Placed
bare p = record p { words = [] }

pub emptied-index : (from end a i : ℕ) (ps : List Placed) (d : Placed) → RiseTo from ps end → i < length ps
    → covers (get_or ps i d) a ≡ true → is_base ps a ≡ true → map (emptied a) ps ≡ set ps i (bare (get_or ps i d))
emptied-index from end a i [] d r l h b = grind arith
emptied-index from end a zero (p ∷ ps) d r l h b =
    let e = base_at from end a zero (p ∷ ps) d r l h b in let t : begins p a ≡ true = grind (arith, nat_tests) in
    let none = emptied-none ps a (has-below (end_of p) end a ps r.1 (covers-inside p a h).1) in
    rw t (ap (λ (qs : List Placed). bare p ∷ qs) none)
emptied-index from end a (suc i) (p ∷ ps) d r l h b =
    let m = at_index (end_of p) end a i ps d r.1 (omega (arith, l)) h in
    let w = has-within (end_of p) end a ps r.1 m.0 in let n = covers-above p a w.0 in
    let f : begins p a ≡ false = grind (arith, nat_tests) in
    rw f (ap (λ (qs : List Placed). p ∷ qs) (emptied-index (end_of p) end a i ps d r.1 (omega (arith, l)) h (grind arith)))

pub emptied-behind : (n : Placed) (xs ys : List Placed) (a : ℕ) → covers n a ≡ false → has xs a ≡ false
    → map (emptied a) (n ∷ (xs ++ ys)) ≡ n ∷ (xs ++ map (emptied a) ys)
emptied-behind n xs ys a c h =
    let f : begins n a ≡ false = grind arith in
    rw f (ap (λ (ps : List Placed). n ∷ ps) (map-append (emptied a) xs ys ∙ ap (λ (ps : List Placed). ps ++ map (emptied a) ys) (emptied-none xs a h)))

-- the blocks that have words

pub full-append : (xs ys : List Placed) → full_blocks (xs ++ ys) ≡ full_blocks xs ++ full_blocks ys
full-append [] ys = refl
full-append (x ∷ xs) ys = grind (arith, full-append xs ys)

pub full-full : (ps : List Placed) → full_blocks (full_blocks ps) ≡ full_blocks ps
full-full [] = refl
full-full (p ∷ ps) = grind (arith, full-full ps)

pub rise-full : (from end : ℕ) (ps : List Placed) → RiseTo from ps end → RiseTo from (full_blocks ps) end
rise-full from end [] r = r
rise-full from end (p ∷ ps) r =
    let e = rise-full (end_of p) end ps r.1 in let l : from ≤ end_of p = (let f = r.0 in omega arith) in
    elim (cases_Bool (has_words p)) [
      | inl t ↦ rw t (r.0, e)
      | inr f ↦ rw f (rise-less from (end_of p) end (full_blocks ps) l e)
    ]
