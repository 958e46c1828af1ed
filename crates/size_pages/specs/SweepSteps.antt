-- What the steps of a sweep ask, and what they change.
use Rattle.std.specs.Prelude.{◌≡◌, ◌≢◌, ℕ, ◌^◌, ◌<◌, ◌≤◌, List, ◌∷◌, length}
use Rattle.heap_space.specs.Memory.{Memory}
use Rattle.heap_space.specs.Extents.{Extent, KeepsWords}
use Rattle.size_pages.specs.PageWords.{word_in, IsInArenas}
use Rattle.size_pages.specs.PageHeader.{class_of, kind_of}
use Rattle.size_pages.specs.Kinds.{kind_number}
use Rattle.size_pages.specs.declared.kinds.PageKind.TheVariants.{Waiting}
use Rattle.size_pages.specs.LiveBlocks.{page_at}
use Rattle.size_pages.specs.PageLists.{EachPlace, IsPage}
use Rattle.size_pages.specs.HasBlocks.{HasBlocks, HasBlocksBut, KeepsSizes}
use Rattle.size_pages.specs.declared.Pages.{Pages}

-- the page is in use and does not wait
pub record CanWait (pages : Pages) (m : Memory) (page : ℕ) : Type 0 where
  pub live : List Extent
  pub waiting : List ℕ
  pub fits : HasBlocks pages m live waiting
  pub is_page : IsPage pages.page pages.count page
  pub used : class_of (word_in m) page ≢ 0
  pub not_waiting : kind_of (word_in m) page ≢ kind_number Waiting

-- the page, in use and on no list, may go in front of the waiting ones
pub record CanPutWaiting (pages : Pages) (m : Memory) (page : ℕ) : Type 0 where
  pub live : List Extent
  pub waiting : List ℕ
  pub fits : HasBlocksBut pages m live waiting page
  pub is_page : IsPage pages.page pages.count page
  pub used : 2 ≤ class_of (word_in m) page
  pub few : pages.waiting < 2 ^ 62

-- the page waits too, in front of those that lie above it
pub record WaitsMore (old new : Pages) (m after : Memory) (page : ℕ) : Type 0 where
  pub fits : (live : List Extent) (waiting : List ℕ) → HasBlocks old m live waiting
      → EachPlace (λ q. page < q) waiting → HasBlocks new after live (page ∷ waiting)
  pub kept : (live : List Extent) (waiting : List ℕ) → HasBlocks old m live waiting → KeepsWords m after live
  pub classes : (k : ℕ) → k < old.count
      → class_of (word_in after) (page_at old.page k) ≡ class_of (word_in m) (page_at old.page k)
  pub others : (k : ℕ) → k < old.count → page_at old.page k ≢ page
      → kind_of (word_in after) (page_at old.page k) ≡ kind_of (word_in m) (page_at old.page k)
  pub sizes : KeepsSizes old new
  pub count : new.count ≡ old.count
  pub order : new.order ≡ old.order
  pub arenas : IsInArenas m after

-- nothing but the heads and the number of waiting pages changes
pub record IsOnlyLists (old new : Pages) : Type 0 where
  pub page : new.page ≡ old.page
  pub pages_per_arena : new.pages_per_arena ≡ old.pages_per_arena
  pub small : new.small ≡ old.small
  pub count : new.count ≡ old.count
  pub lowest : new.lowest ≡ old.lowest
  pub room : length new.heads.items ≡ length old.heads.items
  pub order : new.order ≡ old.order
