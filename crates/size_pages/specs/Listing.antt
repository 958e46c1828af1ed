-- What the steps of listing the live blocks ask, and what they append.
use Rattle.std.specs.Prelude.{◌≡◌, ℕ, ◌+◌, ◌<◌, nat_lt, List, ◌++◌, filter}
use Rattle.std.specs.List.Sorted.{IsPermutation}
use Rattle.heap_space.specs.Memory.{Memory}
use Rattle.heap_space.specs.Extents.{Extent, Each}
use Rattle.size_pages.specs.PageLists.{IsPage}
use Rattle.size_pages.specs.Headers.{HasHeaders, StandsWithHeaders, RiseByPlace}
use Rattle.size_pages.specs.declared.Pages.{Pages}

-- the page is one of the pages
pub record CanListBlocks (pages : Pages) (m : Memory) (page : ℕ) : Type 0 where
  pub stands : StandsWithHeaders pages m
  pub is_page : IsPage pages.page pages.count page

-- the blocks that begin below a place
abbrev pub blocks_below : ℕ → List Extent → List Extent
blocks_below end xs = filter (λ x. nat_lt x.0 end) xs

-- those were appended that begin below a place, by rising place
pub record IsListed (live appended : List Extent) (end : ℕ) : Type 0 where
  pub same : IsPermutation (blocks_below end live) appended
  pub rising : RiseByPlace appended
  pub below : Each (λ x. x.0 < end) appended

-- from those below the page to those below its end
pub record ListsBlocks (pages : Pages) (m : Memory) (page : ℕ) (old new : List Extent) : Type 0 where
  pub listed : (live : List Extent) (waiting : List ℕ) (before appended : List Extent)
      → HasHeaders pages m live waiting → old ≡ before ++ appended → IsListed live appended page
      → (more : List Extent) × (new ≡ before ++ more) × IsListed live more (page + pages.page)
