-- Which large blocks live, and which of them wait to be swept.
use Rattle.std.specs.Prelude.{◌≡◌, ℕ, ◌≤◌, List, [], ◌∷◌, length, filter}
use Rattle.std.specs.List.Sorted.{IsPermutation}
use Rattle.heap_space.specs.Memory.{Memory}
use Rattle.heap_space.specs.Extents.{Extent, Each, begins_between}
use Rattle.large_objects.specs.Blocks.{larges_of, AreRising, places_of}
use Rattle.large_objects.specs.declared.Large.{Large}

-- `live` are the live blocks, in any order, and `waiting` the places of those that wait, by rising place
pub record HasBlocks (large : Large) (m : Memory) (live : List Extent) (waiting : List ℕ) : Type 0 where
  pub listed : large.blocks.entries ≡ larges_of m
  pub same : IsPermutation (larges_of m) live
  pub rising : AreRising (larges_of m)
  pub wide : Each (λ x. 2 ≤ x.1) (larges_of m)
  pub waits : waiting ≡ places_of (filter (begins_between large.wait_from large.wait_end) (larges_of m))
  pub counted : large.waiting ≡ length waiting

-- the space is as the earlier calls left it
pub record Stands (large : Large) (m : Memory) : Type 0 where
  pub live : List Extent
  pub waiting : List ℕ
  pub blocks : HasBlocks large m live waiting

-- the block is live
pub record IsLive (large : Large) (m : Memory) (x : Extent) : Type 0 where
  pub others : List Extent
  pub waiting : List ℕ
  pub blocks : HasBlocks large m (x ∷ others) waiting

-- no block waits
pub record NoneWaits (large : Large) (m : Memory) : Type 0 where
  pub live : List Extent
  pub blocks : HasBlocks large m live []

-- the block at a is the first that waits
pub record IsNext (large : Large) (m : Memory) (a : ℕ) : Type 0 where
  pub live : List Extent
  pub waiting : List ℕ
  pub blocks : HasBlocks large m live (a ∷ waiting)

-- how many blocks wait
abbrev pub waiting_count : Large → ℕ
waiting_count large = large.waiting
