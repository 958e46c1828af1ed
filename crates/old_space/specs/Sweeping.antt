-- What sweeping one unit does: the waiting page of lowest place, or the large block where no page waits.
use Rattle.std.specs.Prelude.{◌≡◌, ℕ, ◌+◌, Bool, ◌&&◌, not, ◌==◌, nat_lt, if◌then◌else◌, List, ◌∷◌, filter, map}
use Rattle.std.specs.List.Sorted.{IsPermutation}
use Rattle.heap_space.specs.Memory.{Memory}
use Rattle.heap_space.specs.Extents.{Extent, Each, IsInside, KeepsOutside}
use Rattle.object_header.specs.Words.{survives_sweep, without_flag}
use Rattle.object_header.specs.declared.flags.Flag.TheVariants.{Visited}
use Rattle.size_pages.specs.PageWords.{word_in}
use Rattle.size_pages.specs.LiveBlocks.{in_page}
use Rattle.size_pages.specs.Sweeping.{birth_in}
use Rattle.old_space.specs.HasBlocks.{KeepsSizes, page_size}
use Rattle.old_space.specs.Headers.{HasHeaders}
use Rattle.old_space.specs.declared.Old.{Old}
use Rattle.size_pages.specs.HasBlocks.{waiting_page_count}

-- whether the block is of the unit: it lies in the page, or is the large block
abbrev pub in_unit : Old → ℕ → Extent → Bool
in_unit old unit x = if nat_lt unit 1099511627776 then in_page (page_size old) unit x else x.0 == unit

-- whether the block goes where the unit is swept: its object was not visited, and it is no reserved home
abbrev pub dies : Old → Memory → ℕ → Extent → Bool
dies old m unit x = in_unit old unit x && not (survives_sweep (word_in m x.0))

-- the live blocks that go, and those that stay
abbrev pub dead_blocks : Old → Memory → ℕ → List Extent → List Extent
dead_blocks old m unit live = filter (dies old m unit) live

abbrev pub kept_blocks : Old → Memory → ℕ → List Extent → List Extent
kept_blocks old m unit live = filter (λ x. not (dies old m unit x)) live

-- a word of a block that stays: word 0 of a block of the unit loses the flag Visited
abbrev pub swept_word : Old → Memory → ℕ → Extent → ℕ → ℕ
swept_word old m unit x a = if in_unit old unit x && (a == x.0) then without_flag (word_in m a) Visited else word_in m a

-- the unit was swept: the blocks that go are not live any more, and these are the births of their objects
pub record SweepsUnit (old : Old) (m : Memory) (new : Old) (after : Memory) (births : List ℕ) (live : List Extent) (unit : ℕ) (rest : List ℕ) : Type 0 where
  pub has : HasHeaders new after (kept_blocks old m unit live) rest
  pub freed : IsPermutation (map (birth_in (word_in m)) (dead_blocks old m unit live)) births
  pub words : Each (λ x. (a : ℕ) → IsInside x a → word_in after a ≡ swept_word old m unit x a) (kept_blocks old m unit live)

-- one step of a sweep: the waiting unit of lowest place was swept, and nothing changed outside the old space
pub record SweepsLowest (old : Old) (m : Memory) (new : Old) (after : Memory) (births : List ℕ) : Type 0 where
  pub lowest : (live : List Extent) (unit : ℕ) (rest : List ℕ) → HasHeaders old m live (unit ∷ rest) → SweepsUnit old m new after births live unit rest
  pub outside : KeepsOutside 4294967296 9223372036854775808 m after
  pub arena_words : after.arena_words ≡ m.arena_words
  pub sizes : KeepsSizes old new

-- how many units wait
abbrev pub units_left : Old → ℕ
units_left old = waiting_page_count old.pages + old.large.waiting
