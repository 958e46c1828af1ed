-- What the calls promise beside the live blocks and the waiting pages.
use Rattle.std.specs.Prelude.{◌≡◌, ◌≢◌, ℕ, ◌+◌, ◌-◌, ◌/◌, ◌<◌, ◌≤◌, ◌⊎◌, ◌↔◌, List, [], length}
use Rattle.heap_space.specs.Memory.{Memory}
use Rattle.size_pages.specs.PageWords.{Words}
use Rattle.size_pages.specs.PageHeader.{class_of, first_free, first_fresh, kind_of, next_at, previous_at, blocks_at}
use Rattle.size_pages.specs.Kinds.{kind_number}
use Rattle.size_pages.specs.declared.kinds.PageKind.TheVariants.{Waiting}
use Rattle.heap_space.specs.Extents.{Extent, Each}
use Rattle.size_pages.specs.LiveBlocks.{page_at, blocks_of}
use Rattle.size_pages.specs.HasBlocks.{HasBlocks, IsLive}
use Rattle.size_pages.specs.declared.Pages.{Pages}
use Rattle.size_pages.specs.PageLists.{EachPlace, IsIn, IsPage, HasRoom}
use Rattle.size_pages.specs.Growth.{AllUsed}

-- where the page of a place begins
abbrev pub page_of : ℕ → ℕ → ℕ
page_of size a = page_at size ((a - 4294967296) / size)

-- the place lies in none of the pages
abbrev pub IsInNone : ℕ → List ℕ → ℕ → Type 0
IsInNone size pages a = EachPlace (λ p. (a < p) ⊎ (p + size ≤ a)) pages

-- no page of the class n has room, but for waiting ones
abbrev pub NoneHasRoom : Words → ℕ → ℕ → ℕ → Type 0
NoneHasRoom w size count n =
    (k : ℕ) → k < count → class_of w (page_at size k) ≡ n → kind_of w (page_at size k) ≢ kind_number Waiting
    → ¬ HasRoom w size (page_at size k)

-- the block comes from a page of its class, or from the lowest unused one, where none of its class has room; that
-- may be the first of an arena to come, of which no word is written yet
pub record TakesFrom (w : Words) (size count n p : ℕ) : Type 0 where
  pub class : (class_of w p ≡ n) ⊎ (class_of w p ≡ 0)
  pub full : class_of w p ≡ 0 → NoneHasRoom w size count n
  pub lowest : class_of w p ≡ 0 → (k : ℕ) → page_at size k < p → class_of w (page_at size k) ≢ 0

-- of its page, the block is the first of the chain, and where none is chained the first that was never handed out
pub record TakesFirst (w : Words) (p a : ℕ) : Type 0 where
  pub chained : class_of w p ≢ 0 → first_free w p ≢ 0 → a ≡ first_free w p
  pub fresh : class_of w p ≢ 0 → first_free w p ≡ 0 → a ≡ first_fresh w p
  pub begun : class_of w p ≡ 0 → a ≡ blocks_at p

-- an arena is added exactly where no page of the class has room and no page is unused
pub record AddsArena (w : Words) (size count n : ℕ) (old new : Memory) : Type 0 where
  pub one : (new.next_arena ≡ old.next_arena) ⊎ (new.next_arena ≡ old.next_arena + old.arena_words)
  pub exactly : (new.next_arena ≡ old.next_arena + old.arena_words) ↔ (NoneHasRoom w size count n × AllUsed w size count)

-- a page, or none
abbrev pub IsPageOrNone : ℕ → ℕ → ℕ → Type 0
IsPageOrNone size count p = (p ≡ 0) ⊎ IsPage size count p

-- words change in the block's words 0 and 1, its page's header, and the links of at most three other pages
pub record ChangesAround (old new : Words) (size count page a : ℕ) : Type 0 where
  pub first : ℕ
  pub second : ℕ
  pub third : ℕ
  pub pages : IsPageOrNone size count first × IsPageOrNone size count second × IsPageOrNone size count third
  pub rest : (e : ℕ) → e ≢ a → e ≢ a + 1 → (e < page) ⊎ (blocks_at page ≤ e)
      → e ≢ next_at first → e ≢ previous_at second → e ≢ previous_at third → new e ≡ old e

-- a live block begins at the place
pub record BeginsLive (pages : Pages) (m : Memory) (a : ℕ) : Type 0 where
  pub words : ℕ
  pub live : IsLive pages m (a, words)

-- no page waits
pub record NoneWaits (pages : Pages) (m : Memory) : Type 0 where
  pub live : List Extent
  pub fits : HasBlocks pages m live []

-- a live block lies in the page
abbrev pub HasLive : ℕ → List Extent → ℕ → Type 0
HasLive size live p = blocks_of size p live ≢ []

-- a sweep begins: the pages with live blocks wait
pub record BeginsSweep (pages : Pages) (m : Memory) (live : List Extent) : Type 0 where
  pub waiting : List ℕ
  pub fits : HasBlocks pages m live waiting
  pub every : Each (λ x. IsIn (page_of pages.page x.0) waiting) live
  pub only : EachPlace (HasLive pages.page live) waiting
  pub most : length waiting ≤ length live
