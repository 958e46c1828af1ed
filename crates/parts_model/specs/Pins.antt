-- The pins of objects of the nursery, one more and one less.
use Rattle.std.specs.Prelude.{ℕ, ◌-◌, nat_lt, if◌then◌else◌}
use Rattle.object_header.specs.Words.{with_flag, without_flag}
use Rattle.object_header.specs.declared.flags.Flag.TheVariants.{Pinned}
use Rattle.store_model.specs.Identity.{pin_count, pinned_more, pinned_less}
use Rattle.parts_model.specs.Parts.{HeapParts, word_in}
use Rattle.parts_model.specs.Effects.{with_word_at}

-- the first word of a pinned object with so many pins left
abbrev pub left_word : ℕ → ℕ → ℕ
left_word word left = if nat_lt 0 left then word else without_flag word Pinned

-- the heap where the object at a place is pinned once more
abbrev pub with_pin : HeapParts → ℕ → HeapParts
with_pin heap place = record (with_word_at heap place (with_flag (word_in heap place) Pinned)) { pins = pinned_more heap.pins place }

-- the heap where it is pinned once less
abbrev pub without_pin : HeapParts → ℕ → HeapParts
without_pin heap place =
    record (with_word_at heap place (left_word (word_in heap place) (pin_count heap.pins place - 1))) { pins = pinned_less heap.pins place }
