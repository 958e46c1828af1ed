-- What is seen of the object in a slot.
use Rattle.std.specs.Prelude.{◌≡◌, ℕ, ◌==◌, if◌then◌else◌, Option, Some, None}
use Rattle.type_table.specs.declared.info.TypeInfo.{TypeInfo}
use Rattle.type_table.specs.Table.{Table}
use Rattle.object_model.specs.declared.kind.Kind.{Kind}
use Rattle.object_model.specs.ObjectWords.{info_at, layout_at}
use Rattle.heap_space.specs.Places.{word_at}
use Rattle.heap_space.specs.Memory.{Memory}
use Rattle.object_view.specs.Views.{HasObject, view_of, view_at}
use Rattle.heap_parts.specs.Parts.{HeapParts, word_in, place_in}
use Rattle.heap_core.specs.declared.found.Found.{Found}
use Rattle.heap_core.specs.Heap.{HeapSeen}

-- the shape of an object that was seen, and how many whole numbers and references it has
abbrev pub kind_of : Found → Kind
kind_of found = record { shape = found.shape; ints = found.view.int_count; refs = found.view.ref_count }

-- what is seen of the object at a place
abbrev pub found_from : Table TypeInfo → (ℕ → ℕ) → ℕ → Found
found_from types word place = record { place = place; shape = (info_at types word place).shape; view = view_at types word place }

-- the same where there may be no object: its place is 0 then
abbrev pub found_at : Table TypeInfo → (ℕ → ℕ) → ℕ → Option Found
found_at types word place = if place == 0 then None else Some (found_from types word place)

-- what is seen of the object in a slot of these parts
abbrev pub found_of : HeapParts → ℕ → Option Found
found_of parts root = found_at parts.setup.types (word_in parts) (place_in parts root)

abbrev pub found_if : Option HeapParts → ℕ → Option Found
found_if None root = None
found_if (Some parts) root = found_of parts root

-- what is seen of the object in a slot of a heap: nothing where it was not started or is spent
abbrev pub found_in : HeapSeen → ℕ → Option Found
found_in heap root = found_if heap.parts root

-- Where an object was seen, a whole one stands, and its parts lie as they were seen.
pub record IsFound (memory : Memory) (types : Table TypeInfo) (found : Found) : Type 0 where
  pub object : HasObject memory types found.place
  pub lies : found.view ≡ view_of found.view.type_id found.view.birth (layout_at types (word_at memory.blocks) found.place)
