-- How the blocks of a memory lie: one after another, each in its own part of the places.
use Rattle.std.specs.Prelude.{◌≡◌, ℕ, ◌^◌, ◌<◌, ◌≤◌, false}
use Rattle.heap_space.specs.Places.{has, RiseTo}
use Rattle.heap_space.specs.Memory.{Memory}

-- the blocks lie one after another from place 1 on, below the place of the next large one,
-- and nothing lies from the place of the next arena up to 2 ^ 40, where the large ones begin
pub record IsInOrder (m : Memory) : Type 0 where
  pub rises : RiseTo 1 m.blocks m.next_large
  pub free : (b : ℕ) → m.next_arena ≤ b → b < 1099511627776 → has m.blocks b ≡ false
  pub arenas_end : m.next_arena ≤ 1099511627776
  pub arena_some : 0 < m.arena_words
  pub arena_most : m.arena_words ≤ 16777219
  pub large_above : 1099511627776 ≤ m.next_large
  pub large_small : m.next_large < 2 ^ 63
