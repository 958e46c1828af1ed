-- Which blocks live outside the nursery, and which units of them wait to be swept.
use Rattle.std.specs.Prelude.{◌≡◌, ℕ, ◌≤◌, List, ◌∷◌, ◌++◌, IsTrue}
use Rattle.std.specs.List.Sorted.{IsPermutation}
use Rattle.heap_space.specs.Places.{lies_in_one}
use Rattle.heap_space.specs.Memory.{Memory}
use Rattle.heap_space.specs.Extents.{Extent}
use Rattle.size_pages.specs.HasBlocks as pages
use Rattle.large_objects.specs.Large as larges
use Rattle.old_space.specs.declared.Old.{Old}

-- `live` are the live blocks, in any order, and `waiting` the places of the waiting units, by rising place: first
-- pages, then large blocks
pub record HasBlocks (old : Old) (m : Memory) (live : List Extent) (waiting : List ℕ) : Type 0 where
  -- the blocks of pages, and the large ones
  pub small : List Extent
  pub large : List Extent
  pub waiting_pages : List ℕ
  pub waiting_blocks : List ℕ
  pub in_pages : pages.HasBlocks old.pages m small waiting_pages
  pub in_larges : larges.HasBlocks old.large m large waiting_blocks
  pub same : IsPermutation (small ++ large) live
  pub waits : waiting ≡ waiting_pages ++ waiting_blocks
  pub greatest : pages.greatest_block old.pages ≡ old.small

-- the space is as the earlier calls left it
pub record Stands (old : Old) (m : Memory) : Type 0 where
  pub live : List Extent
  pub waiting : List ℕ
  pub blocks : HasBlocks old m live waiting

-- the block is live
pub record IsLive (old : Old) (m : Memory) (x : Extent) : Type 0 where
  pub others : List Extent
  pub waiting : List ℕ
  pub blocks : HasBlocks old m (x ∷ others) waiting

-- the greatest words of a block that a page gives
abbrev pub greatest_small : Old → ℕ
greatest_small old = old.small

-- the words of a page
abbrev pub page_size : Old → ℕ
page_size old = pages.page_size old.pages

-- the pages of an arena
abbrev pub arena_pages : Old → ℕ
arena_pages old = pages.arena_pages old.pages

-- the numbers that the blocks were made with stay
pub record KeepsSizes (old new : Old) : Type 0 where
  pub page : page_size new ≡ page_size old
  pub arena : arena_pages new ≡ arena_pages old
  pub small : greatest_small new ≡ greatest_small old

-- what is known of a live block: it lies in one block of the memory, outside the nursery, and has two words or more
pub record IsBlock (m : Memory) (x : Extent) : Type 0 where
  pub lies : IsTrue (lies_in_one m.blocks x.0 x.1)
  pub low : 4294967296 ≤ x.0
  pub wide : 2 ≤ x.1
