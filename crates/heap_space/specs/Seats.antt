-- Where a place has its word, and which blocks still have theirs.
use Rattle.std.specs.Prelude.{◌≡◌, ℕ, ◌+◌, ◌<◌, ◌≤◌, Bool, true, nat_lt, if◌then◌else◌, List, [], ◌∷◌, length, slice_index_or, filter, map}
use Rattle.heap_space.specs.Places.{Placed, covers, begins, RiseTo}
use Rattle.heap_space.specs.Memory.{Memory}

-- blocks of one size that lie side by side from `from` on
abbrev pub AreArenas : ℕ → ℕ → List Placed → Type 0
AreArenas from size [] = Unit {0}
AreArenas from size (p ∷ ps) = (p.base ≡ from) × (length p.words ≡ size) × AreArenas (from + size) size ps

-- blocks that lie one after another among the places of the large ones
abbrev pub AreLarges : List Placed → Type 0
AreLarges ps = (end : ℕ) × RiseTo 1099511627776 ps end

-- the first n blocks begin at a or below, and the others above a
pub record PartsAt (ps : List Placed) (a n : ℕ) : Type 0 where
  pub below : (k : ℕ) (d : Placed) → k < n → (slice_index_or ps k d).base ≤ a
  pub above : (k : ℕ) (d : Placed) → n ≤ k → k < length ps → a < (slice_index_or ps k d).base

-- the place a is the word `offset` of the block `which`
pub record IsSeat (ps : List Placed) (a which offset : ℕ) : Type 0 where
  pub inside : which < length ps
  pub covered : (d : Placed) → covers (slice_index_or ps which d) a ≡ true
  pub sum : (d : Placed) → (slice_index_or ps which d).base + offset ≡ a

-- whether it has words
abbrev pub has_words : Placed → Bool
has_words p = nat_lt 0 (length p.words)

-- the blocks that have words
abbrev pub full_blocks : List Placed → List Placed
full_blocks ps = filter has_words ps

-- a memory whose emptied blocks are not seen
abbrev pub seen : Memory → Memory
seen m = record m { blocks = full_blocks m.blocks }

-- a block, without its words where it begins at a
abbrev pub emptied : ℕ → Placed → Placed
emptied a p = record p { words = if begins p a then [] else p.words }

-- the block that begins at a is emptied
abbrev pub with_emptied : Memory → ℕ → Memory
with_emptied m a = record m { blocks = map (emptied a) m.blocks }
