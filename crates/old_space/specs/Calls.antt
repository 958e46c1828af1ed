-- What the calls promise beside the live blocks and the waiting units.
use Rattle.std.specs.Prelude.{◌≡◌, ℕ, ◌*◌, ◌<◌, ◌≤◌, nat_lt, if◌then◌else◌, List, [], length, map, All, Contains}
use Rattle.heap_space.specs.Memory.{Memory, without_large}
use Rattle.heap_space.specs.Extents.{Extent, Each}
use Rattle.size_pages.specs.HasBlocks.{page_count}
use Rattle.size_pages.specs.Calls.{page_of, ChangesAround}
use Rattle.size_pages.specs.PageWords.{word_in}
use Rattle.object_model.specs.declared.settings.Settings.{Settings}
use Rattle.large_objects.specs.Blocks.{larges_of, without_place}
use Rattle.old_space.specs.HasBlocks.{HasBlocks, IsLive, page_size}
use Rattle.old_space.specs.declared.Old.{Old}

-- the settings of pages lie in their ranges
pub record HasPageSettings (settings : Settings) : Type 0 where
  pub page_low : 64 ≤ settings.page
  pub page_high : settings.page ≤ 8192
  pub arena_low : 1 ≤ settings.arena
  pub arena_high : settings.arena ≤ 1024
  pub small_low : 2 ≤ settings.small

-- the memory has no arena and no large block yet, and its arenas are to have the words of their pages
pub record IsEmptyFor (settings : Settings) (m : Memory) : Type 0 where
  pub arenas : m.next_arena ≡ 4294967296
  pub arena_words : m.arena_words ≡ settings.page * settings.arena
  pub larges : larges_of m ≡ []

-- a page gives the block at a exactly where it has at most `small` words
pub record ComesFrom (small n a : ℕ) : Type 0 where
  pub page : n ≤ small → a < 1099511627776
  pub large : small < n → 1099511627776 ≤ a

-- the units that wait after the block at a was given back: its page waits on, a large block does not
abbrev pub still_waiting : ℕ → List ℕ → List ℕ
still_waiting a waiting = if nat_lt a 1099511627776 then waiting else without_place a waiting

-- the unit of the block at a: its page, or the large block itself
abbrev pub unit_of : Old → ℕ → ℕ
unit_of old a = if nat_lt a 1099511627776 then page_of (page_size old) a else a

-- the units of the blocks
abbrev pub units_of : Old → List Extent → List ℕ
units_of old live = map (λ x. unit_of old x.0) live

-- the unit of the block at a does not wait
abbrev pub IsElsewhere : Old → List ℕ → ℕ → Type 0
IsElsewhere old waiting a = ¬ (Contains waiting (unit_of old a))

-- What giving back the block at a changes. Of a page: the block's words 0 and 1, the page's header, and words 4 and 5 of
-- at most three other pages. A large block goes, and nothing else changes.
pub record GivesBack (old : Old) (m after : Memory) (a : ℕ) : Type 0 where
  pub page : a < 1099511627776 → ChangesAround (word_in m) (word_in after) (page_size old) (page_count old.pages) (page_of (page_size old) a) a
  pub large : 1099511627776 ≤ a → after ≡ without_large m a

-- a live block begins at the place
pub record BeginsLive (old : Old) (m : Memory) (a : ℕ) : Type 0 where
  pub words : ℕ
  pub live : IsLive old m (a, words)

-- no unit waits
pub record NoneWaits (old : Old) (m : Memory) : Type 0 where
  pub live : List Extent
  pub blocks : HasBlocks old m live []

-- a sweep begins: the units of all live blocks wait, and no others, and these are at most as many as the blocks
pub record BeginsSweep (old : Old) (m : Memory) (live : List Extent) : Type 0 where
  pub waiting : List ℕ
  pub blocks : HasBlocks old m live waiting
  pub every : Each (λ x. Contains waiting (unit_of old x.0)) live
  pub only : All (Contains (units_of old live)) waiting
  pub most : length waiting ≤ length live
