-- Pages that are begun and ended, and arenas that are added: what the steps ask, and what they change.
use Rattle.std.specs.Prelude.{◌≡◌, ◌≢◌, ℕ, ◌+◌, ◌<◌, ◌≤◌, ◌⊎◌, ◌↔◌, List, vec_capacity}
use Rattle.heap_space.specs.Memory.{Memory}
use Rattle.heap_space.specs.Extents.{Extent, KeepsWords, KeepsOutside}
use Rattle.size_pages.specs.PageWords.{Words, word_in}
use Rattle.size_pages.specs.PageHeader.{class_of, first_free, first_fresh, blocks_at}
use Rattle.size_pages.specs.LiveBlocks.{page_at}
use Rattle.size_pages.specs.HasBlocks.{HasBlocks, HasBlocksBut, Stands, KeepsSizes}
use Rattle.size_pages.specs.Steps.{CanTakeUnlisted}
use Rattle.size_pages.specs.declared.Pages.{Pages}

-- no page below count is unused
abbrev pub AllUsed : Words → ℕ → ℕ → Type 0
AllUsed w size count = (k : ℕ) → k < count → class_of w (page_at size k) ≢ 0

-- a search for unused pages begins at the page or before
pub record IsLowered (old new : Pages) (page : ℕ) : Type 0 where
  pub is : new ≡ record old { lowest = new.lowest }
  pub below : new.lowest ≤ old.lowest
  pub lower : page_at old.page new.lowest ≤ page

-- the search for unused pages begins at the lowest one, or behind all pages where none is
pub record FindsUnused (old new : Pages) (m : Memory) : Type 0 where
  pub is : new ≡ record old { lowest = new.lowest }
  pub within : new.lowest ≤ old.count
  pub used : AllUsed (word_in m) old.page new.lowest
  pub unused : new.lowest ≢ old.count → class_of (word_in m) (page_at old.page new.lowest) ≡ 0

-- nothing changes but the places in `order`, and its room does not shrink
pub record IsOnlyOrder (old new : Pages) : Type 0 where
  pub sizes : KeepsSizes old new
  pub count : new.count ≡ old.count
  pub lowest : new.lowest ≡ old.lowest
  pub waiting : new.waiting ≡ old.waiting
  pub heads : new.heads.items ≡ old.heads.items
  pub room : vec_capacity old.order ≤ vec_capacity new.order

-- an arena is added, with all its pages unused
pub record AddsPages (old new : Pages) (m after : Memory) : Type 0 where
  pub sizes : KeepsSizes old new
  pub lowest : new.lowest ≡ old.lowest
  pub more : old.count < new.count
  pub added : (live : List Extent) (waiting : List ℕ) → HasBlocks old m live waiting → HasBlocks new after live waiting
  pub words : (e : ℕ) → word_in after e ≡ word_in m e
  pub unused : class_of (word_in m) (page_at old.page old.count) ≡ 0
  pub next : after.next_arena ≡ m.next_arena + m.arena_words
  pub size : after.arena_words ≡ m.arena_words
  pub large : after.next_large ≡ m.next_large
  pub outside : KeepsOutside 4294967296 1099511627776 m after

-- only numbers change that the live blocks and the waiting pages do not tell
pub record KeepsBlocks (old new : Pages) (m : Memory) : Type 0 where
  pub sizes : KeepsSizes old new
  pub fits : (live : List Extent) (waiting : List ℕ) → HasBlocks old m live waiting → HasBlocks new m live waiting

-- the search for unused pages begins at the lowest one. Before that an arena is added where none is unused
pub record MakesUnused (old new : Pages) (m after : Memory) : Type 0 where
  pub sizes : KeepsSizes old new
  pub below : new.lowest < new.count
  pub lower : AllUsed (word_in m) old.page new.lowest
  pub unused : class_of (word_in m) (page_at old.page new.lowest) ≡ 0
  pub fits : (live : List Extent) (waiting : List ℕ) → HasBlocks old m live waiting → HasBlocks new after live waiting
  pub words : (e : ℕ) → word_in after e ≡ word_in m e
  pub one : (after.next_arena ≡ m.next_arena) ⊎ (after.next_arena ≡ m.next_arena + m.arena_words)
  pub exactly : (after.next_arena ≡ m.next_arena + m.arena_words) ↔ AllUsed (word_in m) old.page old.count
  pub size : after.arena_words ≡ m.arena_words
  pub large : after.next_large ≡ m.next_large
  pub outside : KeepsOutside 4294967296 1099511627776 m after

-- no block of the page was handed out
pub record IsEmptyPage (w : Words) (p : ℕ) : Type 0 where
  pub chain : first_free w p ≡ 0
  pub fresh : first_fresh w p ≡ blocks_at p

-- the page at which the search begins is unused, and may get the class n
pub record CanBegin (pages : Pages) (m : Memory) (n : ℕ) : Type 0 where
  pub stands : Stands pages m
  pub below : pages.lowest < pages.count
  pub unused : class_of (word_in m) (page_at pages.page pages.lowest) ≡ 0
  pub low : 2 ≤ n
  pub small : n ≤ pages.small

-- the lowest unused page gets the class n, and is on no list. Before that an arena is added where none is unused
pub record BeginsPage (old new : Pages) (m after : Memory) (page n : ℕ) : Type 0 where
  pub sizes : KeepsSizes old new
  pub can : CanTakeUnlisted new after page n
  pub started : (live : List Extent) (waiting : List ℕ) → HasBlocks old m live waiting
      → HasBlocksBut new after live waiting page
  pub kept : (live : List Extent) (waiting : List ℕ) → HasBlocks old m live waiting → KeepsWords m after live
  pub unused : class_of (word_in m) page ≡ 0
  pub lower : (k : ℕ) → page_at old.page k < page → class_of (word_in m) (page_at old.page k) ≢ 0
  pub empty : IsEmptyPage (word_in after) page
  pub one : (after.next_arena ≡ m.next_arena) ⊎ (after.next_arena ≡ m.next_arena + m.arena_words)
  pub exactly : (after.next_arena ≡ m.next_arena + m.arena_words) ↔ AllUsed (word_in m) old.page old.count
  pub size : after.arena_words ≡ m.arena_words
  pub large : after.next_large ≡ m.next_large
  pub outside : KeepsOutside 4294967296 1099511627776 m after
