-- The words of the space of pages, and what may change among them.
use Rattle.std.specs.Prelude.{◌≡◌, ℕ, ◌<◌, ◌≤◌, ◌⊎◌, ◌==◌, if◌then◌else◌, map, IsTrue}
use Rattle.heap_space.specs.Places.{has, word_at}
use Rattle.heap_space.specs.Memory.{Memory}
use Rattle.heap_space.specs.Extents.{extent_of}

-- the words at all places
abbrev pub Words : Type 0
Words = ℕ → ℕ

-- the words of a memory
abbrev pub word_in : Memory → Words
word_in m a = word_at m.blocks a

-- v is written at a, and all else stays
abbrev pub IsStored : Words → Words → ℕ → ℕ → Type 0
IsStored old new a v = (b : ℕ) → new b ≡ (if b == a then v else old b)

-- the place is that of a word of an arena
pub record CanStore (m : Memory) (a : ℕ) : Type 0 where
  pub place : IsTrue (has m.blocks a)
  pub low : 4294967296 ≤ a
  pub high : a < 1099511627776

-- so are the places from low up to high
abbrev pub HasAll : Memory → ℕ → ℕ → Type 0
HasAll m low high = (b : ℕ) → low ≤ b → b < high → CanStore m b

-- no block comes or goes, and only words of arenas change
pub record IsInArenas (old new : Memory) : Type 0 where
  pub extents : map extent_of new.blocks ≡ map extent_of old.blocks
  pub arena_words : new.arena_words ≡ old.arena_words
  pub next_arena : new.next_arena ≡ old.next_arena
  pub next_large : new.next_large ≡ old.next_large
  pub words : (e : ℕ) → (e < 4294967296) ⊎ (1099511627776 ≤ e) → word_in new e ≡ word_in old e
