-- The live blocks of all pages.
use Rattle.std.specs.Prelude.{◌≡◌, ◌≢◌, ℕ, ◌+◌, ◌*◌, ◌<◌, ◌≤◌, Bool, ◌&&◌, nat_le, nat_lt, List, [], filter}
use Rattle.heap_space.specs.Extents.{Extent, Each, AreApart}
use Rattle.size_pages.specs.PageWords.{Words}
use Rattle.size_pages.specs.PageHeader.{class_of, spare_at, blocks_at}
use Rattle.size_pages.specs.PageBlocks.{PageHolds}

-- where page k begins
abbrev pub page_at : ℕ → ℕ → ℕ
page_at size k = 4294967296 + k * size

-- whether the block begins in the page at p
abbrev pub in_page : ℕ → ℕ → Extent → Bool
in_page size p x = nat_le p x.0 && nat_lt x.0 (p + size)

-- the blocks of the page at p
abbrev pub blocks_of : ℕ → ℕ → List Extent → List Extent
blocks_of size p xs = filter (in_page size p) xs

-- the page at p, in use or not, has these live blocks
pub record PageIs (w : Words) (size : ℕ) (p : ℕ) (live : List Extent) : Type 0 where
  pub free : List Extent
  pub unused : class_of w p ≡ 0 → live ≡ []
  pub holds : class_of w p ≢ 0 → PageHolds w size p free live

-- the block lies in one of the pages, behind its header
pub record IsInPages (size count : ℕ) (x : Extent) : Type 0 where
  pub page : ℕ
  pub below : page < count
  pub wide : 2 ≤ x.1
  pub low : blocks_at (page_at size page) ≤ x.0
  pub high : x.0 + x.1 ≤ page_at size page + size

-- these are the live blocks of the pages
pub record BlocksFit (w : Words) (size count : ℕ) (live : List Extent) : Type 0 where
  pub size_low : 64 ≤ size
  pub pages : (k : ℕ) → k < count → PageIs w size (page_at size k) (blocks_of size (page_at size k) live)
  pub inside : Each (IsInPages size count) live
  pub apart : AreApart live

-- no class has more than `most` words, the first `lowest` pages are in use, and word 7 of each header is 0
pub record ClassesFit (w : Words) (size count most lowest : ℕ) : Type 0 where
  pub small : (k : ℕ) → k < count → class_of w (page_at size k) ≤ most
  pub within : lowest ≤ count
  pub used : (k : ℕ) → k < lowest → class_of w (page_at size k) ≢ 0
  pub last : (k : ℕ) → k < count → w (spare_at (page_at size k)) ≡ 0
