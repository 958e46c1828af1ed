-- Live blocks whose first words are headers, and the list of them.
use Rattle.std.specs.Prelude.{◌≡◌, ℕ, ◌<◌, false, List, [], ◌∷◌, ◌++◌}
use Rattle.std.specs.List.Sorted.{IsPermutation}
use Rattle.heap_space.specs.Memory.{Memory}
use Rattle.heap_space.specs.Extents.{Extent, Each}
use Rattle.object_header.specs.Words.{has_flag, IsHeader}
use Rattle.object_header.specs.declared.flags.Flag.TheVariants.{Free}
use Rattle.size_pages.specs.PageWords.{word_in}
use Rattle.size_pages.specs.HasBlocks.{HasBlocks}
use Rattle.size_pages.specs.declared.Pages.{Pages}

-- word 0 of the block is a header without the flag Free
pub record IsHeaded (m : Memory) (x : Extent) : Type 0 where
  pub header : IsHeader (word_in m x.0)
  pub live : has_flag (word_in m x.0) Free ≡ false

-- these are the live blocks and the waiting pages, and word 0 of each of the blocks is such a header
pub record HasHeaders (pages : Pages) (m : Memory) (live : List Extent) (waiting : List ℕ) : Type 0 where
  pub fits : HasBlocks pages m live waiting
  pub headed : Each (IsHeaded m) live

-- so it stands for some live blocks and waiting pages
pub record StandsWithHeaders (pages : Pages) (m : Memory) : Type 0 where
  pub live : List Extent
  pub waiting : List ℕ
  pub has : HasHeaders pages m live waiting

-- each block lies below those behind it
abbrev pub RiseByPlace : List Extent → Type 0
RiseByPlace [] = Unit {0}
RiseByPlace (x ∷ xs) = Each (λ y. x.0 < y.0) xs × RiseByPlace xs

-- the live blocks were appended, by rising place
pub record AppendsLive (old new live : List Extent) : Type 0 where
  pub appended : List Extent
  pub is : new ≡ old ++ appended
  pub same : IsPermutation live appended
  pub rising : RiseByPlace appended

-- something may stand behind what was there
pub record HoldsMore (old new : List Extent) : Type 0 where
  pub more : List Extent
  pub is : new ≡ old ++ more
