-- Runs of words in use, and what a change leaves alone around them: the words of the layers that hand out blocks.
use Rattle.std.specs.Prelude.{◌≡◌, ℕ, ◌+◌, ◌<◌, ◌≤◌, ◌⊎◌, Bool, false, ◌&&◌, ◌||◌, nat_le, nat_lt, List, [], ◌∷◌, filter, map, length}
use Rattle.heap_space.specs.Places.{Placed, word_at}
use Rattle.heap_space.specs.Memory.{Memory}

-- a run of words: the place of its first word, and how many they are
abbrev pub Extent : Type 0
Extent = ℕ × ℕ

-- each of the extents is so
abbrev pub Each : (Extent → Type 0) → List Extent → Type 0
Each P [] = Unit {0}
Each P (x ∷ xs) = P x × Each P xs

-- the place is that of one of its words
abbrev pub IsInside : Extent → ℕ → Type 0
IsInside x a = (x.0 ≤ a) × (a < x.0 + x.1)

-- two extents share no word
abbrev pub IsApart : Extent → Extent → Type 0
IsApart x y = (x.0 + x.1 ≤ y.0) ⊎ (y.0 + y.1 ≤ x.0)

-- no two of the extents share a word
abbrev pub AreApart : List Extent → Type 0
AreApart [] = Unit {0}
AreApart (x ∷ xs) = Each (IsApart x) xs × AreApart xs

-- the place is that of no word of theirs
abbrev pub IsOutside : List Extent → ℕ → Type 0
IsOutside xs a = Each (λ x. (a < x.0) ⊎ (x.0 + x.1 ≤ a)) xs

-- the extent of a block of the memory
abbrev pub extent_of : Placed → Extent
extent_of p = (p.base, length p.words)

-- whether the extent begins at a place from low on and below high
abbrev pub begins_between : ℕ → ℕ → Extent → Bool
begins_between low high x = nat_le low x.0 && nat_lt x.0 high

-- the extents of the memory's blocks that begin between two places
abbrev pub extents_between : ℕ → ℕ → Memory → List Extent
extents_between low high m = filter (begins_between low high) (map extent_of m.blocks)

-- between two places no block came or went, and no word outside the live extents changed
pub record IsUntouched (low high : ℕ) (old new : Memory) (live : List Extent) : Type 0 where
  pub blocks : extents_between low high new ≡ extents_between low high old
  pub words : (a : ℕ) → low ≤ a → a < high → IsOutside live a → word_at new.blocks a ≡ word_at old.blocks a

-- no word of the live extents changes
abbrev pub KeepsWords : Memory → Memory → List Extent → Type 0
KeepsWords old new live = Each (λ x. (a : ℕ) → IsInside x a → word_at new.blocks a ≡ word_at old.blocks a) live

-- whether the n places from a on lie together in one of the extents
abbrev pub lies_within : List Extent → ℕ → ℕ → Bool
lies_within [] a n = false
lies_within (x ∷ xs) a n = (nat_le x.0 a && nat_le (a + n) (x.0 + x.1)) || lies_within xs a n

-- from low on and below high blocks may come and go and words may change, and all else stays
pub record KeepsOutside (low high : ℕ) (old new : Memory) : Type 0 where
  pub below : IsUntouched 0 low old new []
  pub above : (end : ℕ) → IsUntouched high end old new []
