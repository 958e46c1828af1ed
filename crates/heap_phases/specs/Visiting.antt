-- What visits make of the parts of a heap: first in, first out, over places.
use Rattle.std.specs.Prelude.{◌≡◌, ℕ, true, false, not, List, [], ◌∷◌, ◌++◌, filter, map, flat_map}
use Rattle.heap_space.specs.Places.{with_word}
use Rattle.object_header.specs.Words.{has_flag, with_flag}
use Rattle.object_header.specs.declared.flags.Flag.TheVariants.{Visited}
use Rattle.store_model.specs.Structs.{forced_objects}
use Rattle.object_model.specs.ObjectWords.{words_from, layout_at}
use Rattle.heap_parts.specs.Places.{is_young}
use Rattle.heap_parts.specs.Parts.{HeapParts, word_in}

-- the old places that the object at a place refers to, in item order
abbrev pub old_refs : HeapParts → ℕ → List ℕ
old_refs heap p = filter (λ q. not (is_young q)) (words_from (word_in heap) (layout_at heap.setup.types (word_in heap) p).ref_start (layout_at heap.setup.types (word_in heap) p).ref_count)

-- the old places of the roots: slots, pinned objects, those that are chosen or queued, and objects that P links keep
abbrev pub old_roots : HeapParts → List ℕ
old_roots heap = filter (λ q. not (is_young q)) (heap.slots
    ++ (map (λ entry. entry.0) heap.pins
    ++ (map (λ entry. entry.0) heap.chosen ++ (flat_map (λ entry. entry.1) heap.queues ++ forced_objects heap.links.structs))))

-- what is to be visited is the old places of the roots, in this order
abbrev pub QueuesRoots : HeapParts → HeapParts → Type 0
QueuesRoots old new = new.gray ≡ old_roots old

-- the heap where this is to be visited
abbrev pub with_gray : HeapParts → List ℕ → HeapParts
with_gray heap gray = record heap { gray = gray }

-- the heap where the object at a place carries the mark, and this is still to be visited
abbrev pub with_visit : HeapParts → ℕ → List ℕ → HeapParts
with_visit heap place gray = record heap {
  memory = record heap.memory { blocks = with_word heap.memory.blocks place (with_flag (word_in heap place) Visited) };
  gray = gray;
}

-- visits of these places, from one heap to another: what carries the mark is passed over
pub data PlaceVisits : HeapParts → List ℕ → HeapParts → Type 0 where
  NoPlace : (heap : HeapParts) → PlaceVisits heap [] heap
  PassesPlace : (heap : HeapParts) (p : ℕ) (rest ps : List ℕ) (new : HeapParts) → heap.gray ≡ p ∷ rest → has_flag (word_in heap p) Visited ≡ true
      → PlaceVisits (with_gray heap rest) ps new → PlaceVisits heap ps new
  VisitsPlace : (heap : HeapParts) (p : ℕ) (rest ps : List ℕ) (new : HeapParts) → heap.gray ≡ p ∷ rest → has_flag (word_in heap p) Visited ≡ false
      → PlaceVisits (with_visit heap p (rest ++ old_refs heap p)) ps new → PlaceVisits heap (p ∷ ps) new
