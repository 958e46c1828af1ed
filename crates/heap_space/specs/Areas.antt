-- What the fields of `Areas` stand for.
use Rattle.std.specs.Prelude.{ℕ, ◌+◌, ◌*◌, ◌^◌, ◌<◌, ◌≤◌, ◌≡◌, List, ◌∷◌, ◌++◌, length, IfSome}
use Rattle.heap_space.specs.declared.areas.Areas.TheInside.{Inside}
use Rattle.heap_space.specs.Places.{Placed, RiseTo}
use Rattle.heap_space.specs.Seats.{AreArenas}
use Rattle.heap_space.specs.Memory.{Memory}

-- the words of the nursery, from place 1 on
abbrev pub nursery_block : List ℕ → Placed
nursery_block words = record { base = 1; words = words }

-- the memory of the three areas
abbrev pub memory_of : Inside → Memory
memory_of s = record {
  blocks = nursery_block s.nursery ∷ (s.arenas.items ++ s.larges.items);
  arena_words = s.arena_words;
  next_arena = 4294967296 + length s.arenas.items * s.arena_words;
  next_large = s.next_large;
}

-- to divide by n is to shift by k bits
pub record IsShift (n k : ℕ) : Type 0 where
  pub below : k < 64
  pub power : n ≡ 2 ^ k

-- each area lies in its own part of the places
pub record HasAreas (s : Inside) : Type 0 where
  pub nursery_some : 0 < length s.nursery
  pub nursery_ends : 1 + length s.nursery ≤ 4294967296
  pub arena_some : 0 < s.arena_words
  pub arena_most : s.arena_words ≤ 16777219
  pub arena_shift : IfSome s.arena_shift (IsShift s.arena_words)
  pub arenas : AreArenas 4294967296 s.arena_words s.arenas.items
  pub arenas_end : 4294967296 + length s.arenas.items * s.arena_words ≤ 1099511627776
  pub larges : RiseTo 1099511627776 s.larges.items s.next_large
  pub large_small : s.next_large < 2 ^ 63
