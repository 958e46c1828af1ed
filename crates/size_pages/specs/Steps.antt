-- What the steps of the calls ask of the words, and what they change.
use Rattle.std.specs.Prelude.{◌≡◌, ◌≢◌, ℕ, ◌+◌, ◌*◌, ◌<◌, ◌≤◌, ◌⊎◌, ◌^◌, List, length, slice_index}
use Rattle.heap_space.specs.Memory.{Memory}
use Rattle.size_pages.specs.PageWords.{Words, word_in, CanStore}
use Rattle.size_pages.specs.PageHeader.{HasPageHeader, class_of, first_free, live_count, first_fresh, next_of}
use Rattle.size_pages.specs.PageHeader.{previous_of, kind_of, next_free, next_at, previous_at, kind_at}
use Rattle.size_pages.specs.PageHeader.{blocks_at, link_at}
use Rattle.size_pages.specs.Kinds.{kind_number}
use Rattle.size_pages.specs.declared.kinds.PageKind.TheVariants.{Room}
use Rattle.size_pages.specs.PageLists.{IsPage, IsRight, HasRoom, list_of, list_number}
use Rattle.size_pages.specs.HasBlocks.{StandsBut, Stands, IsLive}
use Rattle.size_pages.specs.declared.Pages.{Pages}

-- the words that taking a page off a list writes
pub record CanUnlink (m : Memory) (heads : List ℕ) (page list : ℕ) : Type 0 where
  pub header : HasPageHeader m page
  pub first : previous_of (word_in m) page ≡ 0 → list < length heads
  pub before : previous_of (word_in m) page ≢ 0 → CanStore m (next_at (previous_of (word_in m) page))
  pub next : next_of (word_in m) page ≢ 0 → CanStore m (previous_at (next_of (word_in m) page))
  pub apart : next_at (previous_of (word_in m) page) ≢ previous_at (next_of (word_in m) page)

-- the words that putting a page on a list writes
pub record CanLink (m : Memory) (heads : List ℕ) (page list : ℕ) : Type 0 where
  pub header : HasPageHeader m page
  pub list_in : list < length heads
  pub next : slice_index heads list ≢ 0 → CanStore m (previous_at (slice_index heads list))
  pub apart4 : previous_at (slice_index heads list) ≢ next_at page
  pub apart5 : slice_index heads list ≢ page
  pub apart6 : previous_at (slice_index heads list) ≢ kind_at page

-- the words that putting a block on its page's chain writes
pub record CanPut (m : Memory) (page block : ℕ) : Type 0 where
  pub header : HasPageHeader m page
  pub block_in : CanStore m block
  pub link_in : CanStore m (link_at block)
  pub apart : blocks_at page ≤ block
  pub count : 0 < live_count (word_in m) page

-- the words that taking a block of n words from a page reads and writes
pub record CanTake (m : Memory) (page n : ℕ) : Type 0 where
  pub header : HasPageHeader m page
  pub count : live_count (word_in m) page < 2 ^ 63
  pub chain_in : first_free (word_in m) page ≢ 0 → CanStore m (first_free (word_in m) page)
  pub link_in : first_free (word_in m) page ≢ 0 → CanStore m (link_at (first_free (word_in m) page))
  pub chain_apart : first_free (word_in m) page ≢ 0 → blocks_at page ≤ first_free (word_in m) page
  pub fresh_in : first_free (word_in m) page ≡ 0 → CanStore m (first_fresh (word_in m) page)
  pub fresh_apart : blocks_at page ≤ first_fresh (word_in m) page
  pub fresh_high : first_fresh (word_in m) page + n < 2 ^ 62

-- the block is the first of the page's chain, and where none is chained the first that was never handed out
pub record TakesNext (w : Words) (p a : ℕ) : Type 0 where
  pub chained : first_free w p ≢ 0 → a ≡ first_free w p
  pub fresh : first_free w p ≡ 0 → a ≡ first_fresh w p

-- nothing but the heads changes
pub record IsOnlyHeads (old new : Pages) : Type 0 where
  pub page : new.page ≡ old.page
  pub pages_per_arena : new.pages_per_arena ≡ old.pages_per_arena
  pub small : new.small ≡ old.small
  pub count : new.count ≡ old.count
  pub lowest : new.lowest ≡ old.lowest
  pub waiting : new.waiting ≡ old.waiting
  pub room : length new.heads.items ≡ length old.heads.items
  pub order : new.order ≡ old.order

-- the page is on that list of its class
pub record CanTakeOff (pages : Pages) (m : Memory) (page list : ℕ) : Type 0 where
  pub stands : Stands pages m
  pub is_page : IsPage pages.page pages.count page
  pub is_list : list ≡ list_of (word_in m) page
  pub low : 2 ≤ list

-- the page is on no list, and its words call for that one
pub record CanPutOn (pages : Pages) (m : Memory) (page list kind : ℕ) : Type 0 where
  pub stands : StandsBut pages m page
  pub is_page : IsPage pages.page pages.count page
  pub is_list : list ≡ list_number kind (class_of (word_in m) page)
  pub low : 2 ≤ list
  pub in_heads : list < length pages.heads.items
  pub right : IsRight kind (word_in m) pages.page page

-- the block lies in the page
pub record BlockIn (size count p a n : ℕ) : Type 0 where
  pub page : IsPage size count p
  pub wide : 2 ≤ n
  pub low : blocks_at p ≤ a
  pub high : a + n ≤ p + size

-- the block is the last live one of its page, which does not wait
pub record CanEnd (pages : Pages) (m : Memory) (page a n list : ℕ) : Type 0 where
  pub live : IsLive pages m (a, n)
  pub off : CanTakeOff pages m page list
  pub block : BlockIn pages.page pages.count page a n
  pub one : live_count (word_in m) page ≡ 1

-- the block is one of several of a full page
pub record CanGiveFull (pages : Pages) (m : Memory) (page a n : ℕ) : Type 0 where
  pub live : IsLive pages m (a, n)
  pub off : CanTakeOff pages m page (2 * n + 1)
  pub block : BlockIn pages.page pages.count page a n
  pub more : 2 ≤ live_count (word_in m) page

-- the page has room for a block of n words, where the page at `except` is on no list
pub record CanTakeFrom (pages : Pages) (m : Memory) (except page n : ℕ) : Type 0 where
  pub stands : StandsBut pages m except
  pub is_page : IsPage pages.page pages.count page
  pub class : class_of (word_in m) page ≡ n
  pub low : 2 ≤ n
  pub small : n ≤ pages.small
  pub room : HasRoom (word_in m) pages.page page

-- the page, on no list, has room for a block of n words
abbrev pub CanTakeUnlisted : Pages → Memory → ℕ → ℕ → Type 0
CanTakeUnlisted pages m page n = CanTakeFrom pages m page page n

-- the page of blocks of n words, which ends at `end`, has room for a second one where one is taken
pub record KeepsRoom (w : Words) (page n end : ℕ) : Type 0 where
  pub chained : first_free w page ≢ 0 → (next_free w (first_free w page) ≢ 0) ⊎ (first_fresh w page + n ≤ end)
  pub fresh : first_free w page ≡ 0 → first_fresh w page + n + n ≤ end

-- the page is on the list of those of n words that have room
pub record IsOpen (pages : Pages) (m : Memory) (page n : ℕ) : Type 0 where
  pub off : CanTakeOff pages m page (2 * n)
  pub class : class_of (word_in m) page ≡ n
  pub kind : kind_of (word_in m) page ≡ kind_number Room
  pub room : HasRoom (word_in m) pages.page page

-- the page stays on that list where a block is taken
pub record StaysOpen (pages : Pages) (m : Memory) (page n : ℕ) : Type 0 where
  pub listed : IsOpen pages m page n
  pub low : 2 ≤ n
  pub small : n ≤ pages.small
  pub keeps : KeepsRoom (word_in m) page n (page + pages.page)
