-- The walk over what stood in the nursery, and what of it is gone.
use Rattle.std.specs.Prelude.{◌≡◌, ℕ, ◌+◌, ◌<◌, ◌^◌, ◌==◌, ◌&&◌, not, Bool, IsTrue, List, [], ◌∷◌, map, filter, length, slice_get, Some, if◌then◌else◌}
use Rattle.heap_space.specs.Places.{has}
use Rattle.nursery_gaps.specs.Ranges.{Range}
use Rattle.object_header.specs.Words.{has_flag}
use Rattle.object_header.specs.declared.flags.Flag.TheVariants.{Pinned}
use Rattle.object_view.specs.Views.{HasObject}
use Rattle.object_model.specs.Sets.{is_in}
use Rattle.object_model.specs.ObjectWords.{info_at}
use Rattle.heap_parts.specs.Nursery.{walked}
use Rattle.heap_parts.specs.Parts.{HeapParts, word_in}
use Rattle.minor_collect.specs.Sizes.{size_now}

-- where the object of a place is now
abbrev pub stands_at : HeapParts → ℕ → ℕ
stands_at heap p = if word_in heap p == 18446744073709551615 then word_in heap (p + 1) else p

-- the words of what stands or stood at a place
abbrev pub size_in : HeapParts → ℕ → ℕ
size_in heap = size_now heap.setup.types (word_in heap)

-- whether what stood at a place is gone: it did not move, and is not pinned
abbrev pub is_gone_at : HeapParts → ℕ → Bool
is_gone_at heap p = not (word_in heap p == 18446744073709551615) && not (has_flag (word_in heap p) Pinned)

-- what stands or stood at a place can be looked at
pub record CanSize (heap : HeapParts) (p : ℕ) : Type 0 where
  pub first : IsTrue (has heap.memory.blocks p)
  pub second : IsTrue (has heap.memory.blocks (p + 1))
  pub fits : p + 1 < 2 ^ 64
  pub object : HasObject heap.memory heap.setup.types (stands_at heap p)

-- places stand one behind another by these sizes, from a place up to an end
abbrev pub IsWalkBy : (ℕ → ℕ) → ℕ → List ℕ → ℕ → Type 0
IsWalkBy size from [] end = from ≡ end
IsWalkBy size from (p ∷ ps) end = (p ≡ from) × IsWalkBy size (from + size p) ps end

-- a range can be walked through
pub record CanWalk (heap : HeapParts) (from end : ℕ) : Type 0 where
  pub places : List ℕ
  pub walk : IsWalkBy (size_in heap) from places end
  pub sized : (p : ℕ) → IsTrue (is_in p places) → CanSize heap p
  pub fits : end < 2 ^ 64

-- and so in each range in turn
abbrev pub AreWalksBy : (ℕ → ℕ) → List Range → List (List ℕ) → Type 0
AreWalksBy size [] [] = Unit {0}
AreWalksBy size [] (places ∷ walks) = ⊥
AreWalksBy size (range ∷ ranges) [] = ⊥
AreWalksBy size (range ∷ ranges) (places ∷ walks) = IsWalkBy size range.0 places (range.0 + range.1) × AreWalksBy size ranges walks

-- all used ranges of the nursery can be walked through
pub record CanWalkAll (heap : HeapParts) : Type 0 where
  pub walks : List (List ℕ)
  pub walk : AreWalksBy (size_in heap) heap.nursery.used walks
  pub sized : (p : ℕ) → IsTrue (is_in p (walked walks)) → CanSize heap p
  pub fits : (k : ℕ) (range : Range) → slice_get heap.nursery.used k ≡ Some range → range.0 + range.1 < 2 ^ 64
  pub few : length heap.nursery.used < 2 ^ 64

-- the births of the objects at these places that have a destructor
abbrev pub births_destroyed : HeapParts → List ℕ → List ℕ
births_destroyed heap dead = map (λ p. word_in heap (p + 1)) (filter (λ p. (info_at heap.setup.types (word_in heap) p).destructor) dead)
