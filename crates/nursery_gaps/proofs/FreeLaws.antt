-- Which words lie outside rising ranges.
use Rattle.std.proofs.Common.{◌≡◌, ℕ, ◌+◌, ◌-◌, ◌<◌, ◌≤◌, max, true, false, not, ◌&&◌, nat_lt, nat_le, List, [], ◌∷◌, ◌++◌, refl, sym, ap, ◌∙◌, inl, inr, arith}
use Rattle.std.proofs.lemmas.Bool.{false≢true, cases_lt, and_parts, and_from, and_left, and_right, lt-ltb, le-ltb, le-leb, lt-leb}
use Rattle.std.proofs.lemmas.List.Folds.{list_all-append}
use Rattle.nursery_gaps.specs.Ranges.{Range, covers, is_free, AreRising, words_between}
use Rattle.nursery_gaps.specs.Gaps.{end_of, next_after, AreNarrow}
use Rattle.nursery_gaps.proofs.GapLaws.{AreRising_le}

-- a word below a range, at or above its end, or in it
pub covers-before : (range : Range) (word : ℕ) → word < range.0 → covers range word ≡ false
covers-before range word before =
    and_left (nat_le range.0 word) (nat_lt word (range.0 + range.1)) (lt-leb range.0 word before)

pub covers-behind : (range : Range) (word : ℕ) → range.0 + range.1 ≤ word → covers range word ≡ false
covers-behind range word behind =
    and_right (nat_le range.0 word) (nat_lt word (range.0 + range.1)) (le-ltb word (range.0 + range.1) behind)

pub covers-within : (range : Range) (word : ℕ) → range.0 ≤ word → word < range.0 + range.1 → covers range word ≡ true
covers-within range word from below =
    and_from (nat_le range.0 word) (nat_lt word (range.0 + range.1)) (le-leb range.0 word from)
    (lt-ltb word (range.0 + range.1) below)

pub is_free-cons : (range : Range) (ranges : List Range) (word : ℕ) → covers range word ≡ false → is_free ranges word ≡ true
    → is_free (range ∷ ranges) word ≡ true
is_free-cons range ranges word outside free =
    and_from (not (covers range word)) (is_free ranges word) (ap not outside) free

pub is_free-taken : (range : Range) (ranges : List Range) (word : ℕ) → covers range word ≡ true
    → is_free (range ∷ ranges) word ≡ false
is_free-taken range ranges word inside =
    and_left (not (covers range word)) (is_free ranges word) (ap not inside)

pub is_free-append : (xs ys : List Range) (word : ℕ) → is_free (xs ++ ys) word ≡ (is_free xs word && is_free ys word)
is_free-append xs ys word = list_all-append (λ range. not (covers range word)) xs ys

pub is_free-both : (xs ys : List Range) (word : ℕ) → is_free xs word ≡ true → is_free ys word ≡ true
    → is_free (xs ++ ys) word ≡ true
is_free-both xs ys word left right =
    is_free-append xs ys word ∙ and_from (is_free xs word) (is_free ys word) left right

pub is_free-parts : (xs ys : List Range) (word : ℕ) → is_free (xs ++ ys) word ≡ true
    → (is_free xs word ≡ true) × (is_free ys word ≡ true)
is_free-parts xs ys word free =
    and_parts (is_free xs word) (is_free ys word) (sym (is_free-append xs ys word) ∙ free)

-- a word behind rising ranges, and one before them
pub is_free-behind : (from to : ℕ) (ranges : List Range) (word : ℕ) → AreRising from to ranges → to ≤ word
    → is_free ranges word ≡ true
is_free-behind from to [] word rising behind = refl
is_free-behind from to (range ∷ ranges) word rising behind =
    is_free-cons range ranges word
    (covers-behind range word (omega (arith, AreRising_le (range.0 + range.1) to ranges rising.2)))
    (is_free-behind (range.0 + range.1) to ranges word rising.2 behind)

pub is_free-below : (from to : ℕ) (ranges : List Range) (word : ℕ) → AreRising from to ranges → word < from
    → is_free ranges word ≡ true
is_free-below from to [] word rising before = refl
is_free-below from to (range ∷ ranges) word rising before =
    is_free-cons range ranges word (covers-before range word (omega arith))
    (is_free-below (range.0 + range.1) to ranges word rising.2 (omega arith))

pub is_free-before : (from to : ℕ) (ranges : List Range) (word : ℕ) → AreRising from to ranges
    → word < next_after to ranges → is_free ranges word ≡ true
is_free-before from to [] word rising before = refl
is_free-before from to (range ∷ ranges) word rising before =
    is_free-below range.0 to (range ∷ ranges) word (omega arith, rising.1, rising.2) before

-- a word at or above the cursor is not among the words below it
pub is_free-words_between : (from to word : ℕ) → to ≤ word → is_free (words_between from to) word ≡ true
is_free-words_between from to word behind = elim (cases_lt from to) [
  | inl less ↦ rw (lt-ltb from to less) (is_free-cons (from, to - from) [] word (covers-behind (from, to - from) word (omega arith)) refl)
  | inr more ↦ rw (le-ltb from to more) refl
]

-- from the cursor on the ranges above it alone decide
pub is_free-above : (gap cursor word : ℕ) (below above : List Range) → AreRising 1 gap below → gap ≤ cursor → cursor ≤ word
    → is_free (below ++ words_between gap cursor ++ above) word ≡ is_free above word
is_free-above gap cursor word below above lower passed reached =
    let free : is_free (below ++ words_between gap cursor) word ≡ true =
    is_free-both below (words_between gap cursor) word (is_free-behind 1 gap below word lower (omega arith))
    (is_free-words_between gap cursor word reached)
    in
    is_free-append (below ++ words_between gap cursor) above word ∙ ap (λ test. test && is_free above word) free

-- n free words lie behind all ranges below which no gap has n words
pub passes : (n from other : ℕ) (to : ℕ) (ranges : List Range) → 0 < n → AreRising from to ranges → AreNarrow n from ranges → from ≤ other
    → ((word : ℕ) → other ≤ word → word < other + n → is_free ranges word ≡ true) → end_of from ranges ≤ other
passes n from other to [] some rising narrow reached free = reached
passes n from other to (range ∷ ranges) some rising narrow reached free = elim (cases_lt other (range.0 + range.1)) [
  | inl inside ↦
      let word : ℕ = max other range.0 in
      absurd (false≢true (sym (is_free-taken range ranges word (covers-within range word (omega arith) (omega arith)))
      ∙ free word (omega arith) (omega arith)))
  | inr behind ↦
      passes n (range.0 + range.1) other to ranges some rising.2 narrow.1 behind
      (λ word low high. (and_parts (not (covers range word)) (is_free ranges word) (free word low high)).1)
]
