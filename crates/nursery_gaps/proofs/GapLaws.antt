-- Rising ranges, read one by one, and the gaps between them.
use Rattle.std.proofs.Common.{◌≡◌, ℕ, ◌+◌, ◌<◌, ◌≤◌, List, [], ◌∷◌, ◌++◌, length, get_or, take, drop, refl, subst, arith, drop-cons, add-one, inl, inr, append-nil}
use Rattle.std.proofs.lemmas.Bool.{cases_lt, lt-ltb, le-ltb}
use Rattle.std.proofs.lemmas.List.{take_more}
use Rattle.nursery_gaps.specs.Ranges.{Range, AreRising, words_between}
use Rattle.nursery_gaps.specs.Gaps.{end_of, next_after, AreNarrow}

-- ranges that rise from one place to another
pub AreRising_le : (from to : ℕ) (ranges : List Range) → AreRising from to ranges → from ≤ to
AreRising_le from to [] rising = rising
AreRising_le from to (range ∷ ranges) rising = omega (arith, AreRising_le (range.0 + range.1) to ranges rising.2)

pub AreRising-drop : (from to : ℕ) (ranges : List Range) (k : ℕ) → k < length ranges → AreRising from to (drop k ranges)
    → AreRising from to (get_or ranges k (0, 0) ∷ drop (k + 1) ranges)
AreRising-drop from to ranges k within rising =
    let split : drop k ranges ≡ get_or ranges k (0, 0) ∷ drop (k + 1) ranges = rw (add-one, drop-cons ranges k (0, 0)) in
    subst (AreRising from to) split rising

-- rising ranges as two runs of them
pub AreRising-down : (from mid to : ℕ) (ranges : List Range) → from ≤ mid → AreRising mid to ranges → AreRising from to ranges
AreRising-down from mid to [] less rising = omega arith
AreRising-down from mid to (range ∷ ranges) less rising = (omega arith, rising.1, rising.2)

pub AreRising-up : (from mid to : ℕ) (ranges : List Range) → mid ≤ next_after to ranges → AreRising from to ranges
    → AreRising mid to ranges
AreRising-up from mid to [] more rising = more
AreRising-up from mid to (range ∷ ranges) more rising = (more, rising.1, rising.2)

pub AreRising-both : (from mid to : ℕ) (xs ys : List Range) → AreRising from mid xs → AreRising mid to ys
    → AreRising from to (xs ++ ys)
AreRising-both from mid to [] ys low high = AreRising-down from mid to ys low high
AreRising-both from mid to (x ∷ xs) ys low high = (low.0, low.1, AreRising-both (x.0 + x.1) mid to xs ys low.2 high)

pub AreRising-parts : (from to : ℕ) (xs ys : List Range) → AreRising from to (xs ++ ys)
    → AreRising from (end_of from xs) xs × AreRising (end_of from xs) to ys
AreRising-parts from to [] ys rising = (omega arith, rising)
AreRising-parts from to (x ∷ xs) ys rising =
    let rest = AreRising-parts (x.0 + x.1) to xs ys rising.2 in
    ((rising.0, rising.1, rest.0), rest.1)

-- the first range lies below the end of the last
pub end_of-above : (from to : ℕ) (ranges : List Range) → 0 < length ranges → AreRising from to ranges → from < end_of from ranges
end_of-above from to [] some rising = absurd (omega arith)
end_of-above from to (range ∷ ranges) some rising =
    let rest : AreRising (range.0 + range.1) (end_of (range.0 + range.1) ranges) ranges =
    (AreRising-parts (range.0 + range.1) to ranges [] (rw append-nil rising.2)).0
    in
    omega (arith, AreRising_le (range.0 + range.1) (end_of (range.0 + range.1) ranges) ranges rest, rising.0, rising.1)

pub next_after_le : (from to : ℕ) (ranges : List Range) → AreRising from to ranges → next_after to ranges ≤ to
next_after_le from to [] rising = omega arith
next_after_le from to (range ∷ ranges) rising =
    omega (arith, AreRising_le (range.0 + range.1) to ranges rising.2)

pub AreRising-words_between : (from to : ℕ) → from ≤ to → AreRising from to (words_between from to)
AreRising-words_between from to order = elim (cases_lt from to) [
  | inl less ↦ rw (lt-ltb from to less) (omega arith, omega arith, omega arith)
  | inr same ↦ rw (le-ltb from to same) order
]

pub end_of-append : (from : ℕ) (xs ys : List Range) → end_of from (xs ++ ys) ≡ end_of (end_of from xs) ys
end_of-append from [] ys = refl
end_of-append from (x ∷ xs) ys = end_of-append (x.0 + x.1) xs ys

pub AreNarrow-append : (n from : ℕ) (xs ys : List Range) → AreNarrow n from xs → AreNarrow n (end_of from xs) ys
    → AreNarrow n from (xs ++ ys)
AreNarrow-append n from [] ys low high = high
AreNarrow-append n from (x ∷ xs) ys low high = (low.0, AreNarrow-append n (x.0 + x.1) xs ys low.1 high)

-- a range among rising ones, and those above it
pub range-at : (from to : ℕ) (ranges : List Range) (k : ℕ) → k < length ranges → AreRising from to (drop k ranges)
    → ((get_or ranges k (0, 0)).0 + (get_or ranges k (0, 0)).1 ≤ to)
    × AreRising ((get_or ranges k (0, 0)).0 + (get_or ranges k (0, 0)).1) to (drop (k + 1) ranges)
range-at from to ranges k within rising =
    let split = AreRising-drop from to ranges k within rising in
    (AreRising_le _ to (drop (k + 1) ranges) split.2, split.2)

-- the end of one more range
pub end_of-more : (from : ℕ) (ranges : List Range) (k : ℕ) → k < length ranges
    → end_of from (take (k + 1) ranges) ≡ (get_or ranges k (0, 0)).0 + (get_or ranges k (0, 0)).1
end_of-more from ranges k within =
    rw (take_more ranges k (0, 0) within) (end_of-append from (take k ranges) (get_or ranges k (0, 0) ∷ []))

-- one more gap with less than n words
pub AreNarrow-more : (n from : ℕ) (ranges : List Range) (k : ℕ) → k < length ranges → AreNarrow n from (take k ranges)
    → (get_or ranges k (0, 0)).0 < end_of from (take k ranges) + n → AreNarrow n from (take (k + 1) ranges)
AreNarrow-more n from ranges k within low here =
    rw (take_more ranges k (0, 0) within)
    (AreNarrow-append n from (take k ranges) (get_or ranges k (0, 0) ∷ []) low (here, tt))
