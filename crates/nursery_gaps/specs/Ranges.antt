-- Ranges of words, and lists of them.
use Rattle.std.specs.Prelude.{ℕ, zero, suc, ◌+◌, ◌-◌, ◌<◌, ◌≤◌, Bool, not, ◌&&◌, nat_lt, nat_le, if◌then◌else◌, List, [], ◌∷◌}
use Rattle.std.specs.List.{list_all}

-- a place, and how many words are from there on
abbrev pub Range : Type 0
Range = ℕ × ℕ

-- whether a word lies in a range
abbrev pub covers : Range → ℕ → Bool
covers range word = nat_le range.0 word && nat_lt word (range.0 + range.1)

-- whether a word lies outside all ranges
abbrev pub is_free : List Range → ℕ → Bool
is_free ranges word = list_all (λ range. not (covers range word)) ranges

-- how many of some words, from a place on, lie outside all ranges
abbrev pub free_words : List Range → ℕ → ℕ → ℕ
free_words ranges place zero = 0
free_words ranges place (suc count) = (if is_free ranges place then 1 else 0) + free_words ranges (place + 1) count

-- no range is empty, each begins at or behind the end of the one before, and all lie from `from` up to `to`
abbrev pub AreRising : ℕ → ℕ → List Range → Type 0
AreRising from to [] = from ≤ to
AreRising from to (range ∷ ranges) = (from ≤ range.0) × (0 < range.1) × AreRising (range.0 + range.1) to ranges

-- the words from one place up to another as a range, where there are some
abbrev pub words_between : ℕ → ℕ → List Range
words_between from to = if nat_lt from to then (from, to - from) ∷ [] else []
