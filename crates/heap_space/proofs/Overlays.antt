-- Laws of words that are written over others.
use Rattle.std.proofs.Common.{◌≡◌, ℕ, zero, suc, ◌+◌, ◌-◌, ◌<◌, ◌≤◌, List, [], ◌∷◌, length, replicate, take, drop, set, get_or, refl, sym, ap, ◌∙◌, subst, arith, if◌then◌else◌}
use Rattle.std.proofs.lemmas.Bool.Decides.{nat_tests}
use Rattle.std.specs.Prelude.{slice_index, slice_range}
use Rattle.std.proofs.lemmas.List.{drop_more}
use Rattle.heap_space.specs.Runs.{within, overlaid, with_words}

pub length-overlaid : (base : ℕ) (words : List ℕ) (a : ℕ) (xs : List ℕ)
    → length (overlaid base words a xs) ≡ length words
length-overlaid base [] a xs = refl
length-overlaid base (w ∷ ws) a xs = ap suc (length-overlaid (base + 1) ws a xs)

-- no place of xs is among those of the words
pub overlaid-none : (base : ℕ) (words : List ℕ) (a : ℕ) (xs : List ℕ) → base + length words ≤ a
    → overlaid base words a xs ≡ words
overlaid-none base [] a xs l = refl
overlaid-none base (w ∷ ws) a xs l = let e = overlaid-none (base + 1) ws a xs (omega (arith, l)) in grind (arith, nat_tests)

-- the places of xs lie before the words
pub overlaid-behind : (base : ℕ) (words : List ℕ) (a : ℕ) (xs : List ℕ) → a + length xs ≤ base
    → overlaid base words a xs ≡ words
overlaid-behind base [] a xs l = refl
overlaid-behind base (w ∷ ws) a xs l = let e = overlaid-behind (base + 1) ws a xs (omega (arith, l)) in grind (arith, nat_tests)

-- words and places are numbered from one more
pub overlaid-shift : (base : ℕ) (words : List ℕ) (a : ℕ) (xs : List ℕ)
    → overlaid (base + 1) words (a + 1) xs ≡ overlaid base words a xs
overlaid-shift base [] a xs = refl
overlaid-shift base (w ∷ ws) a xs =
    let e = overlaid-shift (base + 1) ws a xs in
    let k : (base + 1) - (a + 1) ≡ base - a = omega arith in
    let i : slice_index xs ((base + 1) - (a + 1)) ≡ slice_index xs (base - a) = ap (slice_index xs) k in
    grind (arith, nat_tests)

-- the first of xs lies before the words
pub overlaid-later : (base : ℕ) (words : List ℕ) (a x : ℕ) (xs : List ℕ) → a < base
    → overlaid base words (a + 1) xs ≡ overlaid base words a (x ∷ xs)
overlaid-later base [] a x xs l = refl
overlaid-later base (w ∷ ws) a x xs l =
    let e = overlaid-later (base + 1) ws a x xs (omega (arith, l)) in
    let k : base - a ≡ suc (base - (a + 1)) = omega arith in
    let i : slice_index (x ∷ xs) (base - a) ≡ slice_index xs (base - (a + 1)) = ap (slice_index (x ∷ xs)) k in
    grind (arith, nat_tests)

-- the first of xs is word k
pub overlaid-first : (base : ℕ) (words : List ℕ) (k x : ℕ) (xs : List ℕ)
    → overlaid base (set words k x) ((base + k) + 1) xs ≡ overlaid base words (base + k) (x ∷ xs)
overlaid-first base [] k x xs = refl
overlaid-first base (w ∷ ws) zero x xs =
    let e = overlaid-later (base + 1) ws base x xs (omega arith) in
    let z : base + 0 ≡ base = omega arith in
    let i : slice_index (x ∷ xs) (base - base) ≡ x = ap (slice_index (x ∷ xs)) (let o : base - base ≡ 0 = omega arith in o) in
    rw z (grind (arith, nat_tests))
overlaid-first base (w ∷ ws) (suc k) x xs =
    let e = overlaid-first (base + 1) ws k x xs in
    let z : base + suc k ≡ (base + 1) + k = omega arith in
    rw z (grind (arith, nat_tests))

pub get_or-overlaid : (base : ℕ) (words : List ℕ) (a : ℕ) (xs : List ℕ) (i : ℕ) → i < length words
    → get_or (overlaid base words a xs) i 0
    ≡ (if within a (length xs) (base + i) then get_or xs ((base + i) - a) 0 else get_or words i 0)
get_or-overlaid base [] a xs i l = absurd (omega (arith, l))
get_or-overlaid base (w ∷ ws) a xs zero l = let z : base + 0 ≡ base = omega arith in rw z refl
get_or-overlaid base (w ∷ ws) a xs (suc i) l =
    let z : base + suc i ≡ (base + 1) + i = omega arith in
    rw z (get_or-overlaid (base + 1) ws a xs i (omega (arith, l)))

-- nothing is written
pub overlaid-nil : (base : ℕ) (words : List ℕ) (a : ℕ) → overlaid base words a [] ≡ words
overlaid-nil base [] a = refl
overlaid-nil base (w ∷ ws) a = let e = overlaid-nil (base + 1) ws a in grind (arith, nat_tests)

-- one word of a copy into a block, and of a fill
pub with_words-step : (words : List ℕ) (at x : ℕ) (xs : List ℕ)
    → with_words (set words at x) (at + 1) xs ≡ with_words words at (x ∷ xs)
with_words-step words at x xs =
    let z : 0 + at ≡ at = omega arith in
    subst (λ (k : ℕ). overlaid 0 (set words at x) (k + 1) xs ≡ overlaid 0 words k (x ∷ xs)) z (overlaid-first 0 words at x xs)

pub slice_range-first : (xs : List ℕ) (a b : ℕ) → a < b → b ≤ length xs
    → slice_range xs a b ≡ slice_index xs a ∷ slice_range xs (a + 1) b
slice_range-first xs a b l m =
    let e : b - a ≡ suc (b - (a + 1)) = omega arith in
    ap (λ (n : ℕ). take n (drop a xs)) e ∙ ap (take (suc (b - (a + 1)))) (drop_more xs a 0 (omega arith))

-- word k of a copy of n words
pub with_words-copy : (words there : List ℕ) (from to n k : ℕ) → k < n → from + n ≤ length there
    → with_words (set words (to + k) (slice_index there (from + k))) (to + (k + 1)) (slice_range there (from + (k + 1)) (from + n))
    ≡ with_words words (to + k) (slice_range there (from + k) (from + n))
with_words-copy words there from to n k l m =
    let e : from + (k + 1) ≡ (from + k) + 1 = omega arith in let f : to + (k + 1) ≡ (to + k) + 1 = omega arith in
    let x = slice_index there (from + k) in let xs = slice_range there ((from + k) + 1) (from + n) in
    rw (e, f) (with_words-step words (to + k) x xs
    ∙ ap (with_words words (to + k)) (sym (slice_range-first there (from + k) (from + n) (omega arith) m)))

-- word k of a fill of n words
pub with_words-fill : (words : List ℕ) (from n k : ℕ) → k < n
    → with_words (set words (from + k) 0) (from + (k + 1)) (replicate (n - (k + 1)) 0)
    ≡ with_words words (from + k) (replicate (n - k) 0)
with_words-fill words from n k l =
    let e : n - k ≡ suc (n - (k + 1)) = omega arith in let f : from + (k + 1) ≡ (from + k) + 1 = omega arith in
    rw f (with_words-step words (from + k) 0 (replicate (n - (k + 1)) 0)
    ∙ ap (λ (m : ℕ). with_words words (from + k) (replicate m 0)) (sym e))

-- no word is left to copy, or to fill
pub with_words-copied : (words there : List ℕ) (from at n k : ℕ) → n ≤ k
    → with_words words at (slice_range there (from + k) (from + n)) ≡ words
with_words-copied words there from at n k l =
    let e : (from + n) - (from + k) ≡ 0 = omega arith in
    ap (λ (m : ℕ). with_words words at (take m (drop (from + k) there))) e ∙ overlaid-nil 0 words at

pub with_words-filled : (words : List ℕ) (at n k : ℕ) → n ≤ k → with_words words at (replicate (n - k) 0) ≡ words
with_words-filled words at n k l =
    let e : n - k ≡ 0 = omega arith in
    ap (λ (m : ℕ). with_words words at (replicate m 0)) e ∙ overlaid-nil 0 words at
