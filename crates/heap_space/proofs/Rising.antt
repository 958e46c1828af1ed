-- Laws of blocks that lie one after another, also by their number in the list.
use Rattle.std.proofs.Common.{◌≡◌, ℕ, zero, suc, ◌+◌, ◌-◌, ◌*◌, ◌<◌, ◌≤◌, true, false, ◌&&◌, ◌||◌, not, List, [], ◌∷◌, ◌++◌, length, set, get_or, refl, sym, ap, ◌∙◌, subst, arith, inl, inr}
use Rattle.std.proofs.lemmas.Bool.{cases_Bool}
use Rattle.std.proofs.lemmas.Bool.Decides.{nat_tests}
use Rattle.std.specs.Prelude.{slice_index, nat_lt}
use Rattle.heap_space.specs.Runs.{within}
use Rattle.heap_space.specs.Places.{Placed, covers, end_of, has, word_at, written, with_word, lies_in_one, with_run, with_block, without_block, begins, is_base, length_at, RiseTo}
use Rattle.heap_space.specs.Seats.{AreArenas}
use Rattle.heap_space.proofs.Blocks.{covers-inside, covers-below, covers-above, length-written, length-overwritten, written-none, begins-covers, begins-base, without-none, lies-has, is_base-has}

-- where rising blocks lie

pub rise_le : (from end : ℕ) (ps : List Placed) → RiseTo from ps end → from ≤ end
rise_le from end [] r = r
rise_le from end (p ∷ ps) r = let e = rise_le (end_of p) end ps r.1 in let f = r.0 in omega arith

pub has-within : (from end a : ℕ) (ps : List Placed) → RiseTo from ps end → has ps a ≡ true → (from ≤ a) × (a < end)
has-within from end a [] r h = grind arith
has-within from end a (p ∷ ps) r h =
    grind (arith, covers-inside p a, has-within (end_of p) end a ps r.1, rise_le (end_of p) end ps r.1)

pub has-below : (from end a : ℕ) (ps : List Placed) → RiseTo from ps end → a < from → has ps a ≡ false
has-below from end a [] r l = refl
has-below from end a (p ∷ ps) r l = grind (arith, covers-below p a, has-below (end_of p) end a ps r.1)

pub has-above : (from end a : ℕ) (ps : List Placed) → RiseTo from ps end → end ≤ a → has ps a ≡ false
has-above from end a [] r l = refl
has-above from end a (p ∷ ps) r l =
    grind (arith, covers-above p a, rise_le (end_of p) end ps r.1, has-above (end_of p) end a ps r.1)

pub has-append : (xs ys : List Placed) (a : ℕ) → has (xs ++ ys) a ≡ (has xs a || has ys a)
has-append [] ys a = refl
has-append (x ∷ xs) ys a = grind (arith, has-append xs ys a)

pub is_base-append : (xs ys : List Placed) (a : ℕ) → is_base (xs ++ ys) a ≡ (is_base xs a || is_base ys a)
is_base-append [] ys a = refl
is_base-append (x ∷ xs) ys a = grind (arith, is_base-append xs ys a)

-- blocks that rise between other ends, and together

pub rise-more : (from middle end : ℕ) (ps : List Placed) → middle ≤ end → RiseTo from ps middle → RiseTo from ps end
rise-more from middle end [] l r = omega (arith, l, r)
rise-more from middle end (p ∷ ps) l r = (r.0, rise-more (end_of p) middle end ps l r.1)

pub rise-less : (less from end : ℕ) (ps : List Placed) → less ≤ from → RiseTo from ps end → RiseTo less ps end
rise-less less from end [] l r = omega (arith, l, r)
rise-less less from end (p ∷ ps) l r = (omega (arith, l, r.0), r.1)

pub rise-append : (from middle end : ℕ) (xs ys : List Placed) → RiseTo from xs middle → RiseTo middle ys end
    → RiseTo from (xs ++ ys) end
rise-append from middle end [] [] r s = omega (arith, r, s)
rise-append from middle end [] (y ∷ ys) r s = (omega (arith, r, s.0), s.1)
rise-append from middle end (x ∷ xs) ys r s = (r.0, rise-append (end_of x) middle end xs ys r.1 s)

-- a new length of each block changes nothing, where it is the old one
rise-long : (end base m n : ℕ) (ps : List Placed) → m ≡ n → RiseTo (base + n) ps end → RiseTo (base + m) ps end
rise-long end base m n ps e r = subst (λ (k : ℕ). RiseTo (base + k) ps end) (sym e) r

pub rise-with_word : (from end a v : ℕ) (ps : List Placed) → RiseTo from ps end → RiseTo from (with_word ps a v) end
rise-with_word from end a v [] r = r
rise-with_word from end a v (p ∷ ps) r =
    (r.0, rise-long end p.base _ _ (with_word ps a v) (length-written a v p) (rise-with_word (end_of p) end a v ps r.1))

pub rise-with_run : (from end a : ℕ) (xs : List ℕ) (ps : List Placed) → RiseTo from ps end
    → RiseTo from (with_run ps a xs) end
rise-with_run from end a xs [] r = r
rise-with_run from end a xs (p ∷ ps) r =
    (r.0, rise-long end p.base _ _ (with_run ps a xs) (length-overwritten a xs p) (rise-with_run (end_of p) end a xs ps r.1))

pub rise-without : (from end a : ℕ) (ps : List Placed) → RiseTo from ps end → RiseTo from (without_block ps a) end
rise-without from end a [] r = r
rise-without from end a (p ∷ ps) r =
    let e = rise-without (end_of p) end a ps r.1 in let l : from ≤ end_of p = (let f = r.0 in omega arith) in
    let less = rise-less from (end_of p) end (without_block ps a) l e in
    elim (cases_Bool (begins p a)) [ inl b ↦ rw b less | inr n ↦ rw n (r.0, e) ]

-- a block that comes between others

pub with_block-first : (from end : ℕ) (ps : List Placed) (q : Placed) → RiseTo from ps end → q.base < from
    → with_block ps q ≡ q ∷ ps
with_block-first from end [] q r l = refl
with_block-first from end (p ∷ ps) q r l =
    let e : nat_lt q.base p.base ≡ true = (let f = r.0 in grind (arith, nat_tests)) in rw e refl

pub with_block-between : (from middle later end : ℕ) (xs ys : List Placed) (q : Placed) → RiseTo from xs middle
    → middle ≤ q.base → q.base < later → RiseTo later ys end → with_block (xs ++ ys) q ≡ xs ++ q ∷ ys
with_block-between from middle later end [] ys q r l m s = with_block-first later end ys q s m
with_block-between from middle later end (x ∷ xs) ys q r l m s =
    let f = rise_le (end_of x) middle xs r.1 in let e : nat_lt q.base x.base ≡ false = grind (arith, nat_tests) in
    rw e (ap (λ (zs : List Placed). x ∷ zs) (with_block-between (end_of x) middle later end xs ys q r.1 l m s))

-- blocks by their number

pub at_index : (from end a i : ℕ) (ps : List Placed) (d : Placed) → RiseTo from ps end → i < length ps
    → covers (get_or ps i d) a ≡ true
    → (has ps a ≡ true) × (word_at ps a ≡ slice_index (get_or ps i d).words (a - (get_or ps i d).base))
at_index from end a i [] d r l h = grind arith
at_index from end a zero (p ∷ ps) d r l h = grind arith
at_index from end a (suc i) (p ∷ ps) d r l h =
    let m = at_index (end_of p) end a i ps d r.1 (omega (arith, l)) h in
    let w = has-within (end_of p) end a ps r.1 m.0 in let n = covers-above p a w.0 in grind arith

with_word-none : (ps : List Placed) (a v : ℕ) → has ps a ≡ false → with_word ps a v ≡ ps
with_word-none [] a v h = refl
with_word-none (p ∷ ps) a v h = grind (arith, with_word-none ps a v, written-none a v p)

pub with_word-index : (from end a v i : ℕ) (ps : List Placed) (d : Placed) → RiseTo from ps end → i < length ps
    → covers (get_or ps i d) a ≡ true → with_word ps a v ≡ set ps i (written a v (get_or ps i d))
with_word-index from end a v i [] d r l h = grind arith
with_word-index from end a v zero (p ∷ ps) d r l h =
    let none = has-below (end_of p) end a ps r.1 (covers-inside p a h).1 in
    ap (λ (qs : List Placed). written a v p ∷ qs) (with_word-none ps a v none)
with_word-index from end a v (suc i) (p ∷ ps) d r l h =
    let m = at_index (end_of p) end a i ps d r.1 (omega (arith, l)) h in
    let w = has-within (end_of p) end a ps r.1 m.0 in let e = written-none a v p (covers-above p a w.0) in
    let f = with_word-index (end_of p) end a v i ps d r.1 (omega (arith, l)) h in grind (arith, e, f)

pub base-from : (from end i : ℕ) (ps : List Placed) (d : Placed) → RiseTo from ps end → i < length ps
    → from ≤ (get_or ps i d).base
base-from from end i [] d r l = grind arith
base-from from end zero (p ∷ ps) d r l = r.0
base-from from end (suc i) (p ∷ ps) d r l =
    let e = base-from (end_of p) end i ps d r.1 (omega (arith, l)) in let f = r.0 in omega arith

-- two blocks lie apart
pub blocks-apart : (from end i j : ℕ) (ps : List Placed) (d : Placed) → RiseTo from ps end → i < j → j < length ps
    → end_of (get_or ps i d) ≤ (get_or ps j d).base
blocks-apart from end i j [] d r l m = grind arith
blocks-apart from end i zero (p ∷ ps) d r l m = absurd (omega (arith, l))
blocks-apart from end zero (suc j) (p ∷ ps) d r l m = base-from (end_of p) end j ps d r.1 (omega (arith, m))
blocks-apart from end (suc i) (suc j) (p ∷ ps) d r l m = blocks-apart (end_of p) end i j ps d r.1 (omega (arith, l)) (omega (arith, m))

-- what lies in one block lies in the block that has its first place
pub spans-here : (from end a n i : ℕ) (ps : List Placed) (d : Placed) → RiseTo from ps end → i < length ps → 0 < n
    → covers (get_or ps i d) a ≡ true → lies_in_one ps a n ≡ true → a + n ≤ end_of (get_or ps i d)
spans-here from end a n i [] d r l z h o = grind arith
spans-here from end a n zero (p ∷ ps) d r l z h o =
    let c = covers-inside p a h in let m = has-below (end_of p) end a ps r.1 c.1 in
    let g = lies-has ps a n z in grind (arith, nat_tests)
spans-here from end a n (suc i) (p ∷ ps) d r l z h o =
    let m = at_index (end_of p) end a i ps d r.1 (omega (arith, l)) h in
    let w = has-within (end_of p) end a ps r.1 m.0 in
    spans-here (end_of p) end a n i ps d r.1 (omega (arith, l)) z h (let q = w.0 in grind (arith, nat_tests))

-- a block begins at most once at a place
pub without_block-base : (ps : List Placed) (a : ℕ) → is_base (without_block ps a) a ≡ false
without_block-base [] a = refl
without_block-base (p ∷ ps) a = grind (arith, without_block-base ps a)

-- the places of the block that begins at a, where the blocks rise

has-without_first : (from end a b : ℕ) (p : Placed) (ps : List Placed) → RiseTo from (p ∷ ps) end → begins p a ≡ true
    → has (without_block (p ∷ ps) a) b ≡ (has (p ∷ ps) b && not (within a (length_at (p ∷ ps) a) b))
has-without_first from end a b p ps r t =
    let c = begins-covers p a t in let i = covers-inside p a c in let e = begins-base p a t in
    let none = without-none ps a (has-below (end_of p) end a ps r.1 i.1) in
    let below = has-below (end_of p) end b ps r.1 in
    rw t (ap (λ (qs : List Placed). has qs b) none ∙ grind (arith, nat_tests, below))

has-without_later : (from end a b : ℕ) (p : Placed) (ps : List Placed) → RiseTo from (p ∷ ps) end → begins p a ≡ false
    → is_base ps a ≡ true → has (without_block ps a) b ≡ (has ps b && not (within a (length_at ps a) b))
    → has (without_block (p ∷ ps) a) b ≡ (has (p ∷ ps) b && not (within a (length_at (p ∷ ps) a) b))
has-without_later from end a b p ps r f h e =
    let w = has-within (end_of p) end a ps r.1 (is_base-has ps a h) in let c = covers-inside p b in
    let low = w.0 in rw f (grind (arith, nat_tests))

pub has-without : (from end a b : ℕ) (ps : List Placed) → RiseTo from ps end → is_base ps a ≡ true
    → has (without_block ps a) b ≡ (has ps b && not (within a (length_at ps a) b))
has-without from end a b [] r h = grind arith
has-without from end a b (p ∷ ps) r h = elim (cases_Bool (begins p a)) [
  | inl t ↦ has-without_first from end a b p ps r t
  | inr f ↦ (let h' : is_base ps a ≡ true = grind arith in
      has-without_later from end a b p ps r f h' (has-without (end_of p) end a b ps r.1 h'))
]

-- and the words of the others
pub word_at-kept : (from end a b : ℕ) (ps : List Placed) → RiseTo from ps end → has (without_block ps a) b ≡ true
    → word_at (without_block ps a) b ≡ word_at ps b
word_at-kept from end a b [] r h = refl
word_at-kept from end a b (p ∷ ps) r h = elim (cases_Bool (begins p a)) [
  | inl t ↦ (let later : has (without_block ps a) b ≡ true = (rw t at h) in
      let w = has-within (end_of p) end b (without_block ps a) (rise-without (end_of p) end a ps r.1) later in
      let n = covers-above p b w.0 in
      rw (t, n) (word_at-kept (end_of p) end a b ps r.1 later))
  | inr f ↦ rw f (grind (arith, word_at-kept (end_of p) end a b ps r.1))
]

-- blocks that lie side by side

pub arenas-rise : (from size : ℕ) (ps : List Placed) → AreArenas from size ps
    → RiseTo from ps (from + length ps * size)
arenas-rise from size [] r = grind arith
arenas-rise from size (p ∷ ps) r =
    let e : end_of p ≡ from + size = omega (arith, r.0, r.1) in let end : ℕ = from + length (p ∷ ps) * size in
    let tail : RiseTo (from + size) ps end = subst (RiseTo (from + size) ps) (grind arith) (arenas-rise (from + size) size ps r.2) in
    (omega (arith, r.0), subst (λ (k : ℕ). RiseTo k ps end) (sym e) tail)

pub arena_at : (from size k : ℕ) (ps : List Placed) (d : Placed) → AreArenas from size ps → k < length ps
    → ((get_or ps k d).base ≡ from + k * size) × (length (get_or ps k d).words ≡ size)
arena_at from size k [] d r l = grind arith
arena_at from size zero (p ∷ ps) d r l = grind arith
arena_at from size (suc k) (p ∷ ps) d r l =
    let h = arena_at (from + size) size k ps d r.2 (omega (arith, l)) in (h.0 ∙ grind arith, h.1)

pub arenas-append : (from size : ℕ) (xs : List Placed) (q : Placed) → AreArenas from size xs
    → q.base ≡ from + length xs * size → length q.words ≡ size → AreArenas from size (xs ++ q ∷ [])
arenas-append from size [] q r e f = (e ∙ grind arith, f, tt)
arenas-append from size (x ∷ xs) q r e f = (r.0, r.1, arenas-append (from + size) size xs q r.2 (e ∙ grind arith) f)

-- a block takes another's place, as long as that one

pub arenas-set : (from size k : ℕ) (ps : List Placed) (d q : Placed) → AreArenas from size ps → k < length ps
    → q.base ≡ (get_or ps k d).base → length q.words ≡ length (get_or ps k d).words → AreArenas from size (set ps k q)
arenas-set from size k [] d q r l e f = r
arenas-set from size zero (p ∷ ps) d q r l e f = (e ∙ r.0, f ∙ r.1, r.2)
arenas-set from size (suc k) (p ∷ ps) d q r l e f = (r.0, r.1, arenas-set (from + size) size k ps d q r.2 (omega (arith, l)) e f)

pub rise-set : (from end k : ℕ) (ps : List Placed) (d q : Placed) → RiseTo from ps end → k < length ps
    → q.base ≡ (get_or ps k d).base → length q.words ≤ length (get_or ps k d).words → RiseTo from (set ps k q) end
rise-set from end k [] d q r l e f = r
rise-set from end zero (p ∷ ps) d q r l e f =
    (omega (arith, r.0, e), rise-less (end_of q) (end_of p) end ps (omega (arith, e, f)) r.1)
rise-set from end (suc k) (p ∷ ps) d q r l e f = (r.0, rise-set (end_of p) end k ps d q r.1 (omega (arith, l)) e f)
