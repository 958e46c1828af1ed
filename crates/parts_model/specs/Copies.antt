-- References are copied from the object in one slot to that in another.
use Rattle.std.specs.Prelude.{ℕ, List}
use Rattle.heap_space.specs.Places.{Placed, with_run, run_at}
use Rattle.parts_model.specs.Parts.{HeapParts}
use Rattle.parts_model.specs.Effects.{ref_place}

-- the heap with other words
abbrev pub heap_with : HeapParts → List Placed → HeapParts
heap_with heap blocks = record heap { memory = record heap.memory { blocks = blocks } }

-- the heap where so many words from a place on are what those from another place on were before
abbrev pub with_copied : HeapParts → ℕ → ℕ → ℕ → HeapParts
with_copied heap to from count = heap_with heap (with_run heap.memory.blocks to (run_at heap.memory.blocks from count))

-- the heap where so many references of the object in a slot are what those of the object in another slot were before
abbrev pub with_copy : HeapParts → ℕ → ℕ → ℕ → ℕ → ℕ → HeapParts
with_copy heap root item from from_item count =
    with_copied heap (ref_place heap root item) (ref_place heap from from_item) count
