-- Which objects can be pinned.
use Rattle.std.specs.Prelude.{ℕ, Bool, not, ◌&&◌}
use Rattle.object_model.specs.ObjectWords.{info_at}
use Rattle.store_model.specs.Identity.{can_refer, has_pin_room, pin_count}
use Rattle.heap_parts.specs.Parts.{HeapParts, word_in, place_in}
use Rattle.heap_parts.specs.Places.{is_young}

-- whether the object in a slot can be pinned once more: it is in the nursery, can't refer to others, and one more may be counted
abbrev pub can_pin_in : HeapParts → ℕ → Bool
can_pin_in heap root =
    is_young (place_in heap root)
    && (not (can_refer (info_at heap.setup.types (word_in heap) (place_in heap root)).shape)
    && has_pin_room heap.setup.settings.pins heap.pins (pin_count heap.pins (place_in heap root)))
