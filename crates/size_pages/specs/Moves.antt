-- What finding a page for a block, and giving a block back, leave of the pages.
use Rattle.std.specs.Prelude.{◌≡◌, ℕ, ◌+◌, ◌<◌, ◌≤◌, List, ◌∷◌}
use Rattle.heap_space.specs.Memory.{Memory}
use Rattle.heap_space.specs.Extents.{Extent, KeepsWords, KeepsOutside}
use Rattle.size_pages.specs.PageWords.{word_in, IsInArenas}
use Rattle.size_pages.specs.HasBlocks.{HasBlocks, HasBlocksBut, KeepsSizes}
use Rattle.size_pages.specs.Steps.{CanTakeUnlisted, TakesNext}
use Rattle.size_pages.specs.Calls.{page_of, IsInNone, TakesFrom, TakesFirst, AddsArena, ChangesAround}
use Rattle.size_pages.specs.declared.Pages.{Pages}

-- the page has room for a block of n words and is on no list: one of that class, or else the lowest unused one
pub record FindsPage (old new : Pages) (m after : Memory) (page n : ℕ) : Type 0 where
  pub sizes : KeepsSizes old new
  pub can : CanTakeUnlisted new after page n
  pub found : (live : List Extent) (waiting : List ℕ) → HasBlocks old m live waiting
      → HasBlocksBut new after live waiting page
  pub kept : (live : List Extent) (waiting : List ℕ) → HasBlocks old m live waiting → KeepsWords m after live
  pub apart : (live : List Extent) (waiting : List ℕ) → HasBlocks old m live waiting → (a : ℕ) → page ≤ a
      → a < page + old.page → IsInNone old.page waiting a
  pub from : TakesFrom (word_in m) old.page old.count n page
  pub next : (a : ℕ) → TakesNext (word_in after) page a → TakesFirst (word_in m) page a
  pub arena : AddsArena (word_in m) old.page old.count n m after
  pub size : after.arena_words ≡ m.arena_words
  pub large : after.next_large ≡ m.next_large
  pub outside : KeepsOutside 4294967296 1099511627776 m after

-- the block, of n words, is taken from the page, which stays on its list
pub record TakesListed (pages : Pages) (m after : Memory) (n a : ℕ) : Type 0 where
  pub taken : (live : List Extent) (waiting : List ℕ) → HasBlocks pages m live waiting
      → HasBlocks pages after ((a, n) ∷ live) waiting
  pub kept : (live : List Extent) (waiting : List ℕ) → HasBlocks pages m live waiting → KeepsWords m after live
  pub apart : (live : List Extent) (waiting : List ℕ) → HasBlocks pages m live waiting → IsInNone pages.page waiting a
  pub cleared : word_in after a ≡ 0
  pub from : TakesFrom (word_in m) pages.page pages.count n (page_of pages.page a)
  pub first : TakesFirst (word_in m) (page_of pages.page a) a
  pub arena : AddsArena (word_in m) pages.page pages.count n m after
  pub arenas : IsInArenas m after

-- the block of the page is not live any more
pub record GivesBlock (old new : Pages) (m after : Memory) (page a n : ℕ) : Type 0 where
  pub given : (live : List Extent) (waiting : List ℕ) → HasBlocks old m ((a, n) ∷ live) waiting
      → HasBlocks new after live waiting
  pub kept : (live : List Extent) (waiting : List ℕ) → HasBlocks old m ((a, n) ∷ live) waiting → KeepsWords m after live
  pub around : ChangesAround (word_in m) (word_in after) old.page old.count page a
  pub arenas : IsInArenas m after
  pub sizes : KeepsSizes old new
