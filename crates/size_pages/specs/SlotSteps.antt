-- What the steps of the sweep of a page ask, and what they change.
use Rattle.std.specs.Prelude.{◌≡◌, ℕ, true, false, List, ◌∷◌, ◌++◌, map}
use Rattle.std.specs.List.Sorted.{IsPermutation}
use Rattle.heap_space.specs.Memory.{Memory}
use Rattle.heap_space.specs.Extents.{Extent, Each, IsInside, KeepsWords}
use Rattle.object_header.specs.Words.{has_flag, without_flag, survives_sweep}
use Rattle.object_header.specs.declared.flags.Flag.TheVariants.{Free, Visited}
use Rattle.size_pages.specs.PageWords.{Words, word_in, CanStore, IsInArenas, IsStored}
use Rattle.size_pages.specs.PageBlocks.{GivesBack}
use Rattle.size_pages.specs.HasBlocks.{HasBlocks, KeepsSizes}
use Rattle.size_pages.specs.Steps.{CanPut}
use Rattle.size_pages.specs.Headers.{HasHeaders}
use Rattle.size_pages.specs.Sweeping.{birth_in, dead_blocks, kept_blocks, swept_word}
use Rattle.size_pages.specs.declared.Pages.{Pages}

-- the page is the first waiting one
pub record CanSweepAt (pages : Pages) (m : Memory) (page : ℕ) : Type 0 where
  pub live : List Extent
  pub rest : List ℕ
  pub has : HasHeaders pages m live (page ∷ rest)

-- the births of the page's dead objects were appended
pub record GathersBirths (pages : Pages) (m : Memory) (page : ℕ) (old new : List ℕ) : Type 0 where
  pub gathered : (live : List Extent) (rest : List ℕ) → HasHeaders pages m live (page ∷ rest)
      → (births : List ℕ) × (new ≡ old ++ births) × IsPermutation (map (birth_in (word_in m)) (dead_blocks (word_in m) pages.page page live)) births

-- numbers may stand behind what was there
pub record HoldsNumbers (old new : List ℕ) : Type 0 where
  pub more : List ℕ
  pub is : new ≡ old ++ more

-- the words at a slot that a sweep reads and writes
pub record CanSweepSlot (m : Memory) (page block : ℕ) : Type 0 where
  pub word : CanStore m block
  pub dead : has_flag (word_in m block) Free ≡ false → survives_sweep (word_in m block) ≡ false → CanPut m page block

-- a slot is swept: a free block stays, a dead one goes on the chain, and another loses the flag Visited
pub record SweepsSlot (old new : Words) (page block : ℕ) : Type 0 where
  pub free : has_flag (old block) Free ≡ true → (e : ℕ) → new e ≡ old e
  pub dead : has_flag (old block) Free ≡ false → survives_sweep (old block) ≡ false → GivesBack old new page block
  pub kept : has_flag (old block) Free ≡ false → survives_sweep (old block) ≡ true
      → IsStored old new block (without_flag (old block) Visited)

-- all slots of the page are swept
pub record SweepsBlocks (pages : Pages) (m after : Memory) (page : ℕ) : Type 0 where
  pub fits : (live : List Extent) (rest : List ℕ) → HasHeaders pages m live (page ∷ rest)
      → HasBlocks pages after (kept_blocks (word_in m) pages.page page live) (page ∷ rest)
  pub words : (live : List Extent) (rest : List ℕ) → HasHeaders pages m live (page ∷ rest)
      → Each (λ x. (a : ℕ) → IsInside x a → word_in after a ≡ swept_word (word_in m) pages.page page x a) (kept_blocks (word_in m) pages.page page live)
  pub arenas : IsInArenas m after

-- the page is the first waiting one
pub record CanRelist (pages : Pages) (m : Memory) (page : ℕ) : Type 0 where
  pub live : List Extent
  pub rest : List ℕ
  pub fits : HasBlocks pages m live (page ∷ rest)

-- the page does not wait any more
pub record Relists (old new : Pages) (m after : Memory) (page : ℕ) : Type 0 where
  pub fits : (live : List Extent) (rest : List ℕ) → HasBlocks old m live (page ∷ rest) → HasBlocks new after live rest
  pub kept : (live : List Extent) (rest : List ℕ) → HasBlocks old m live (page ∷ rest) → KeepsWords m after live
  pub arenas : IsInArenas m after
  pub sizes : KeepsSizes old new
