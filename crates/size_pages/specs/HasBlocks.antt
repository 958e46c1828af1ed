-- How the pages and the words of their space spell the live blocks and the waiting pages.
use Rattle.std.specs.Prelude.{◌≡◌, ℕ, ◌+◌, ◌*◌, ◌<◌, ◌≤◌, List, [], ◌∷◌, length, vec_capacity, IsTrue}
use Rattle.heap_space.specs.Memory.{Memory}
use Rattle.heap_space.specs.Extents.{Extent, extents_between, lies_within}
use Rattle.size_pages.specs.PageWords.{word_in}
use Rattle.size_pages.specs.LiveBlocks.{BlocksFit, ClassesFit, page_at}
use Rattle.size_pages.specs.PageLists.{EachPlace, ListsFit}
use Rattle.size_pages.specs.declared.Pages.{Pages}

-- the words of a page
abbrev pub page_size : Pages → ℕ
page_size pages = pages.page

-- the pages of an arena
abbrev pub arena_pages : Pages → ℕ
arena_pages pages = pages.pages_per_arena

-- the greatest words of a block
abbrev pub greatest_block : Pages → ℕ
greatest_block pages = pages.small

-- how many pages there are, in all arenas
abbrev pub page_count : Pages → ℕ
page_count pages = pages.count

-- how many pages wait
abbrev pub waiting_page_count : Pages → ℕ
waiting_page_count pages = pages.waiting

-- each place is below those behind it
abbrev pub IsRising : List ℕ → Type 0
IsRising [] = Unit {0}
IsRising (p ∷ ps) = EachPlace (λ q. p < q) ps × IsRising ps

-- the page of that number lies in a block of the memory that begins at the arenas' places
abbrev pub IsPlaced : Memory → ℕ → ℕ → Type 0
IsPlaced m size k = IsTrue (lies_within (extents_between 4294967296 m.next_arena m) (page_at size k) size)

-- the numbers that pages are made with, and the words of an arena
pub record HasSetup (size per_arena small arena_words : ℕ) : Type 0 where
  pub size_high : size ≤ 8192
  pub arena_low : 1 ≤ per_arena
  pub arena_high : per_arena ≤ 1024
  pub small_low : 2 ≤ small
  pub small_high : small + 8 ≤ size
  pub arena_size : arena_words ≡ size * per_arena

-- the arenas are so many pages, one behind the other
pub record HasArenas (m : Memory) (size count : ℕ) : Type 0 where
  pub end : m.next_arena ≡ page_at size count
  pub below : page_at size count ≤ 1099511627776
  pub placed : (k : ℕ) → k < count → IsPlaced m size k

-- these are the live blocks and the waiting pages, where the page at `except` is on no list for the moment
pub record HasBlocksBut (pages : Pages) (m : Memory) (live : List Extent) (waiting : List ℕ) (except : ℕ) : Type 0 where
  pub setup : HasSetup pages.page pages.pages_per_arena pages.small m.arena_words
  pub arenas : HasArenas m pages.page pages.count
  pub blocks : BlocksFit (word_in m) pages.page pages.count live
  pub classes : ClassesFit (word_in m) pages.page pages.count pages.small pages.lowest
  pub lists : ListsFit (word_in m) pages.page pages.count pages.heads.items waiting except
  pub heads : 0 < pages.count → 2 * pages.small + 2 ≤ length pages.heads.items
  pub waits : pages.waiting ≡ length waiting
  pub rising : IsRising waiting
  pub room : pages.count ≤ vec_capacity pages.order

-- these are the live blocks, in any order, and the waiting pages, by rising place
abbrev pub HasBlocks : Pages → Memory → List Extent → List ℕ → Type 0
HasBlocks pages m live waiting = HasBlocksBut pages m live waiting 0

-- so it stands for some live blocks and waiting pages
pub record StandsBut (pages : Pages) (m : Memory) (except : ℕ) : Type 0 where
  pub live : List Extent
  pub waiting : List ℕ
  pub fits : HasBlocksBut pages m live waiting except

-- the space is as the earlier calls left it, but for writes inside live blocks and changes outside the arenas
pub record Stands (pages : Pages) (m : Memory) : Type 0 where
  pub live : List Extent
  pub waiting : List ℕ
  pub fits : HasBlocks pages m live waiting

-- the block is live
pub record IsLive (pages : Pages) (m : Memory) (x : Extent) : Type 0 where
  pub others : List Extent
  pub waiting : List ℕ
  pub fits : HasBlocks pages m (x ∷ others) waiting

-- the numbers that the pages were made with stay
pub record KeepsSizes (old new : Pages) : Type 0 where
  pub page : page_size new ≡ page_size old
  pub pages_per_arena : arena_pages new ≡ arena_pages old
  pub small : greatest_block new ≡ greatest_block old
