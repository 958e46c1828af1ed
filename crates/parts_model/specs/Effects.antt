-- What plain calls make of the parts of a heap.
use Rattle.std.specs.Prelude.{ℕ, ◌+◌, ◌<◌, ◌==◌, if◌then◌else◌, length, slice_set, Option, Some, None}
use Rattle.heap_space.specs.Places.{with_word}
use Rattle.object_view.specs.Views.{HasObject}
use Rattle.object_model.specs.Layout.{Layout}
use Rattle.object_model.specs.ObjectWords.{layout_at}
use Rattle.object_header.specs.Words.{without_flag}
use Rattle.object_header.specs.declared.flags.Flag.TheVariants.{Track}
use Rattle.remember_cards.specs.Remembered.{with_whole}
use Rattle.parts_model.specs.Parts.{HeapParts, word_in, place_in}

-- where the parts of the object in a slot lie
abbrev pub layout_in : HeapParts → ℕ → Layout
layout_in heap root = layout_at heap.setup.types (word_in heap) (place_in heap root)

-- the place of a whole number of the object in a slot
abbrev pub int_place : HeapParts → ℕ → ℕ → ℕ
int_place heap root item = (layout_in heap root).int_start + item

-- the place of a reference of the object in a slot
abbrev pub ref_place : HeapParts → ℕ → ℕ → ℕ
ref_place heap root item = (layout_in heap root).ref_start + item

-- the heap with this word at a place
abbrev pub with_word_at : HeapParts → ℕ → ℕ → HeapParts
with_word_at heap place word = record heap { memory = record heap.memory { blocks = with_word heap.memory.blocks place word } }

-- the heap with this place in a slot
abbrev pub with_slot : HeapParts → ℕ → ℕ → HeapParts
with_slot heap root place = record heap { slots = slice_set heap.slots root place }

-- the heap where the object at a place is remembered whole
abbrev pub with_barrier : HeapParts → ℕ → HeapParts
with_barrier heap place = record heap {
  memory = record heap.memory { blocks = with_word heap.memory.blocks place (without_flag (word_in heap place) Track) };
  remembered = with_whole heap.remembered place;
}

-- the birth of the object at a place, None where it is 0
abbrev pub birth_read : (ℕ → ℕ) → ℕ → Option ℕ
birth_read word place = if place == 0 then None else Some (word (place + 1))

-- a slot leads to a whole object
pub record HasObjectIn (heap : HeapParts) (root : ℕ) : Type 0 where
  pub slot : root < length heap.slots
  pub object : HasObject heap.memory heap.setup.types (place_in heap root)
