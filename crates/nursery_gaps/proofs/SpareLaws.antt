-- How many words are free from a place on.
use Rattle.std.proofs.Common.{◌≡◌, ℕ, zero, suc, ◌+◌, ◌-◌, ◌<◌, ◌≤◌, Bool, true, false, not, ◌&&◌, if◌then◌else◌, List, [], ◌∷◌, ◌++◌, sum_by, refl, sym, ap, arith, zero-add, add-zero}
use Rattle.std.proofs.lemmas.List.Sums.{sum_by-cons}
use Rattle.nursery_gaps.specs.Ranges.{Range, is_free, free_words, AreRising, words_between}
use Rattle.nursery_gaps.specs.Nursery.{spare_words}
use Rattle.nursery_gaps.proofs.GapLaws.{AreRising_le}
use Rattle.nursery_gaps.proofs.FreeLaws.{covers-behind, covers-within, is_free-before, is_free-taken, is_free-above}
use Rattle.nursery_gaps.proofs.LayoutLaws.{IsSplit, layout_of}

-- what one word adds to a count
abbrev one_if : Bool → ℕ
one_if test = if test then 1 else 0

-- free words from one place on and then from another
pub free_words-add : (ranges : List Range) (place a b : ℕ)
    → free_words ranges place (a + b) ≡ free_words ranges place a + free_words ranges (place + a) b
free_words-add ranges place zero b = rw (zero-add b, add-zero place) (sym (zero-add (free_words ranges place b)))
free_words-add ranges place (suc a) b =
    let next : place + 1 + a ≡ place + suc a = omega arith in
    let more : suc a + b ≡ suc (a + b) = omega arith in
    let rest = free_words-add ranges (place + 1) a b in
    rw more (omega (arith, rest, ap (λ at. free_words ranges at b) next))

pub free_words-all : (ranges : List Range) (place count : ℕ)
    → ((word : ℕ) → place ≤ word → word < place + count → is_free ranges word ≡ true) → free_words ranges place count ≡ count
free_words-all ranges place zero free = refl
free_words-all ranges place (suc count) free =
    let here : one_if (is_free ranges place) ≡ 1 =
    ap one_if (free place (omega arith) (omega arith))
    in
    omega (arith, here, free_words-all ranges (place + 1) count (λ word low high. free word (omega arith) (omega arith)))

pub free_words-none : (ranges : List Range) (place count : ℕ)
    → ((word : ℕ) → place ≤ word → word < place + count → is_free ranges word ≡ false) → free_words ranges place count ≡ 0
free_words-none ranges place zero taken = refl
free_words-none ranges place (suc count) taken =
    let here : one_if (is_free ranges place) ≡ 0 =
    ap one_if (taken place (omega arith) (omega arith))
    in
    omega (arith, here, free_words-none ranges (place + 1) count (λ word low high. taken word (omega arith) (omega arith)))

pub free_words-same : (xs ys : List Range) (place count : ℕ)
    → ((word : ℕ) → place ≤ word → is_free xs word ≡ is_free ys word) → free_words xs place count ≡ free_words ys place count
free_words-same xs ys place zero same = refl
free_words-same xs ys place (suc count) same =
    let here : one_if (is_free xs place) ≡ one_if (is_free ys place) =
    ap one_if (same place (omega arith))
    in
    omega (arith, here, free_words-same xs ys (place + 1) count (λ word low. same word (omega arith)))

-- behind a range it decides nothing
is_free-cons_behind : (range : Range) (ranges : List Range) (word : ℕ) → range.0 + range.1 ≤ word
    → is_free (range ∷ ranges) word ≡ is_free ranges word
is_free-cons_behind range ranges word behind =
    ap (λ test. not test && is_free ranges word) (covers-behind range word behind)

-- from a place on, all words are free but those of the ranges above it
pub free_words-rising : (from to : ℕ) (ranges : List Range) → AreRising from to ranges
    → free_words ranges from (to - from) + sum_by (λ range. range.1) ranges ≡ to - from
free_words-rising from to [] rising = omega (arith, free_words-all [] from (to - from) (λ word low high. refl))
free_words-rising from to (range ∷ ranges) rising =
    let all : List Range = range ∷ ranges in
    let end : ℕ = range.0 + range.1 in
    let ends : end ≤ to = AreRising_le end to ranges rising.2 in
    let parts : to - from ≡ (range.0 - from) + (range.1 + (to - end)) = omega (arith, rising.0) in
    let gap = free_words-all all from (range.0 - from)
    (λ word low high. is_free-before from to all word rising (omega (arith, rising.0)))
    in
    let taken = free_words-none all range.0 range.1
    (λ word low high. is_free-taken range ranges word (covers-within range word low high))
    in
    let rest = free_words-same all ranges end (to - end) (λ word low. is_free-cons_behind range ranges word low) in
    let at : from + (range.0 - from) ≡ range.0 = omega (arith, rising.0) in
    let first = free_words-add all from (range.0 - from) (range.1 + (to - end)) in
    let second = free_words-add all range.0 range.1 (to - end) in
    rw parts
    (omega (
      arith,
      first,
      ap (λ place. free_words all place (range.1 + (to - end))) at,
      second,
      gap,
      taken,
      rest,
      free_words-rising end to ranges rising.2,
      sum_by-cons {X = Range} (λ r. r.1) range ranges,
    ))

-- what is spare in a nursery, with the words of the ranges above its cursor
pub spare_words-split : (words pins gap cursor : ℕ) (below above : List Range) → IsSplit words gap cursor below above
    → spare_words (layout_of words pins gap cursor below above) + sum_by (λ range. range.1) above ≡ words + 1 - cursor
spare_words-split words pins gap cursor below above split =
    omega (
      arith,
      free_words-rising cursor (words + 1) above split.upper,
      free_words-same (below ++ words_between gap cursor ++ above) above cursor (words + 1 - cursor)
          (λ word low. is_free-above gap cursor word below above split.lower split.passed low),
    )

pub spare-is : (words pins gap cursor : ℕ) (below above : List Range) (count : ℕ) → IsSplit words gap cursor below above
    → count + sum_by (λ range. range.1) above ≡ words + 1 - cursor
    → count ≡ spare_words (layout_of words pins gap cursor below above)
spare-is words pins gap cursor below above count split counted =
    omega (arith, counted, spare_words-split words pins gap cursor below above split)
