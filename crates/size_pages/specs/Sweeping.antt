-- The sweep of a waiting page.
use Rattle.std.specs.Prelude.{◌≡◌, ℕ, ◌+◌, Bool, ◌&&◌, not, ◌==◌, if◌then◌else◌, List, ◌∷◌, ◌++◌, map, filter}
use Rattle.std.specs.List.Sorted.{IsPermutation}
use Rattle.heap_space.specs.Memory.{Memory}
use Rattle.heap_space.specs.Extents.{Extent, Each, IsInside}
use Rattle.object_header.specs.Words.{survives_sweep, without_flag}
use Rattle.object_header.specs.declared.flags.Flag.TheVariants.{Visited}
use Rattle.size_pages.specs.PageWords.{Words, word_in}
use Rattle.size_pages.specs.LiveBlocks.{in_page}
use Rattle.size_pages.specs.HasBlocks.{HasBlocks}
use Rattle.size_pages.specs.Headers.{HasHeaders}
use Rattle.size_pages.specs.declared.Pages.{Pages}

-- whether the block is freed where the page at p is swept
abbrev pub dies : Words → ℕ → ℕ → Extent → Bool
dies w size p x = in_page size p x && not (survives_sweep (w x.0))

-- the live blocks that are freed, and those that stay
abbrev pub dead_blocks : Words → ℕ → ℕ → List Extent → List Extent
dead_blocks w size p live = filter (dies w size p) live

abbrev pub kept_blocks : Words → ℕ → ℕ → List Extent → List Extent
kept_blocks w size p live = filter (λ x. not (dies w size p x)) live

-- the birth of the object in a block
abbrev pub birth_in : Words → Extent → ℕ
birth_in w x = w (x.0 + 1)

-- a word of a live block that stays: word 0 loses the flag Visited where the block lies in the page
abbrev pub swept_word : Words → ℕ → ℕ → Extent → ℕ → ℕ
swept_word w size p x a = if in_page size p x && (a == x.0) then without_flag (w a) Visited else w a

-- some page waits, and word 0 of each live block is a header without the flag Free
pub record CanSweep (pages : Pages) (m : Memory) : Type 0 where
  pub live : List Extent
  pub page : ℕ
  pub rest : List ℕ
  pub has : HasHeaders pages m live (page ∷ rest)

-- the page was swept: its unvisited objects are freed and their births appended, and the flag Visited is off
pub record SweepsPage (new : Pages) (m after : Memory) (size : ℕ) (live : List Extent) (page : ℕ) (rest : List ℕ) (before now : List ℕ) : Type 0 where
  pub fits : HasBlocks new after (kept_blocks (word_in m) size page live) rest
  pub births : List ℕ
  pub appended : now ≡ before ++ births
  pub freed : IsPermutation (map (birth_in (word_in m)) (dead_blocks (word_in m) size page live)) births
  pub words : Each (λ x. (a : ℕ) → IsInside x a → word_in after a ≡ swept_word (word_in m) size page x a) (kept_blocks (word_in m) size page live)
