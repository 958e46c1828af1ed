-- The pages in use, gathered from their lists.
use Rattle.std.specs.Prelude.{◌≡◌, ◌≢◌, ℕ, ◌+◌, ◌<◌, ◌≤◌, List, length}
use Rattle.heap_space.specs.Memory.{Memory}
use Rattle.size_pages.specs.PageWords.{word_in, CanStore}
use Rattle.size_pages.specs.PageHeader.{next_at, class_of}
use Rattle.size_pages.specs.LiveBlocks.{page_at}
use Rattle.size_pages.specs.PageLists.{EachPlace, IsIn, first_of_list, Linked, IsPage}
use Rattle.size_pages.specs.HasBlocks.{IsRising}
use Rattle.size_pages.specs.declared.Pages.{Pages}

-- these are the pages of the list that begins at `first`
pub record IsListFrom (m : Memory) (first : ℕ) (list : List ℕ) : Type 0 where
  pub starts : first ≡ first_of_list list
  pub before : ℕ
  pub linked : Linked (word_in m) before list
  pub words : EachPlace (λ p. CanStore m (next_at p)) list

-- a list begins at `first`, and behind so many places there is room for its pages
pub record CanGather (m : Memory) (first places room : ℕ) : Type 0 where
  pub list : List ℕ
  pub is_list : IsListFrom m first list
  pub enough : places + length list ≤ room

-- the page is in use
pub record IsUsed (pages : Pages) (m : Memory) (page : ℕ) : Type 0 where
  pub is_page : IsPage pages.page pages.count page
  pub used : class_of (word_in m) page ≢ 0

-- these are the pages in use, by rising place
pub record IsOrder (pages : Pages) (m : Memory) (order : List ℕ) : Type 0 where
  pub rising : IsRising order
  pub used : EachPlace (IsUsed pages m) order
  pub every : (k : ℕ) → k < pages.count → class_of (word_in m) (page_at pages.page k) ≢ 0
      → IsIn (page_at pages.page k) order
