-- What a heap tells of its objects: it is read from the words and the lists.
use Rattle.std.specs.Prelude.{ℕ, ◌+◌, ◌==◌, Bool, false, if◌then◌else◌, Option, Some, None, is_some}
use Rattle.type_table.specs.declared.info.Shape.{Shape}
use Rattle.type_table.specs.declared.info.Shape.TheVariants.{IntArray, RefArray}
use Rattle.type_table.specs.declared.info.TypeInfo.{TypeInfo}
use Rattle.type_table.specs.Table.{Table, value_at}
use Rattle.object_header.specs.Words.{has_flag}
use Rattle.object_header.specs.declared.flags.Flag.TheVariants.{Pinned}
use Rattle.object_model.specs.declared.kind.Kind.{Kind}
use Rattle.object_model.specs.ObjectWords.{info_at, layout_at}
use Rattle.store_model.specs.Structs.{state_of, p_link_of}
use Rattle.store_model.specs.Look.{Look}
use Rattle.parts_model.specs.Parts.{HeapParts, word_in, place_in}
use Rattle.parts_model.specs.Registers.{is_final}

-- the shape of the object at a place, and how many whole numbers and references it has
abbrev pub kind_from : Table TypeInfo → (ℕ → ℕ) → ℕ → Kind
kind_from types word place = record {
  shape = (info_at types word place).shape;
  ints = (layout_at types word place).int_count;
  refs = (layout_at types word place).ref_count;
}

-- the same where there may be no object: its place is 0 then
abbrev pub kind_at : Table TypeInfo → (ℕ → ℕ) → ℕ → Option Kind
kind_at types word place = if place == 0 then None else Some (kind_from types word place)

abbrev items_by : Shape → ℕ → ℕ → ℕ
items_by IntArray ints refs = ints
items_by RefArray ints refs = refs
items_by shape ints refs = 0

-- how many items an array has, and 0 for an object of another shape
abbrev pub items_of : Kind → ℕ
items_of kind = items_by kind.shape kind.ints kind.refs

-- something is told of the object at a place, and false where that is 0
abbrev pub if_there : ℕ → Bool → Bool
if_there place told = if place == 0 then false else told

-- whether the object at a place has a P link
abbrev pub has_p_link_at : HeapParts → ℕ → Bool
has_p_link_at heap place = is_some (p_link_of heap.links.structs place)

-- what a caller can be told of a heap
abbrev pub told : HeapParts → Look
told heap = record {
  kind = λ root. kind_at heap.setup.types (word_in heap) (place_in heap root);
  is_pinned = λ root. if_there (place_in heap root) (has_flag (word_in heap (place_in heap root)) Pinned);
  was_registered = λ root. if_there (place_in heap root) (is_final heap (place_in heap root));
  has_p_link = λ root. if_there (place_in heap root) (has_p_link_at heap (place_in heap root));
  structure = λ number. state_of (value_at heap.links.structs number);
}
