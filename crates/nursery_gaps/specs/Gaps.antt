-- The gaps between rising ranges, for the search of one.
use Rattle.std.specs.Prelude.{◌≡◌, ℕ, ◌+◌, ◌<◌, ◌≤◌, List, [], ◌∷◌, length, take, drop}
use Rattle.nursery_gaps.specs.Ranges.{Range}

-- the end of the last range, or `from` where there is none
abbrev pub end_of : ℕ → List Range → ℕ
end_of from [] = from
end_of from (range ∷ ranges) = end_of (range.0 + range.1) ranges

-- the place of the first range, or `to` where there is none
abbrev pub next_after : ℕ → List Range → ℕ
next_after to [] = to
next_after to (range ∷ ranges) = range.0

-- no gap below one of the ranges has n words, where the first of these gaps begins at `from`
abbrev pub AreNarrow : ℕ → ℕ → List Range → Type 0
AreNarrow n from [] = Unit {0}
AreNarrow n from (range ∷ ranges) = (range.0 < from + n) × AreNarrow n (range.0 + range.1) ranges

-- between rising ranges from one place to another, the first gap of n words lies above so many of them
pub record IsFirstGap (n from to : ℕ) (ranges : List Range) (passed place : ℕ) : Type 0 where
  pub within : passed ≤ length ranges
  pub begins : place ≡ end_of from (take passed ranges)
  pub narrow : AreNarrow n from (take passed ranges)
  pub wide : place + n ≤ next_after to (drop passed ranges)

-- no gap between rising ranges has n words
pub record HasNoGap (n from to : ℕ) (ranges : List Range) : Type 0 where
  pub narrow : AreNarrow n from ranges
  pub short : to < end_of from ranges + n
