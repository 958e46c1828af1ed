-- Views of the objects in a memory.
use Rattle.std.specs.Prelude.{ℕ, ◌+◌, ◌^◌, ◌≤◌, ◌<◌, IsTrue, IsSome}
use Rattle.type_table.specs.declared.info.TypeInfo.{TypeInfo}
use Rattle.type_table.specs.Table.{Table, value_at}
use Rattle.object_model.specs.Layout.{Layout}
use Rattle.object_model.specs.ObjectWords.{layout_at, type_id_at, words_at}
use Rattle.heap_space.specs.Places.{word_at, lies_in_one}
use Rattle.heap_space.specs.Memory.{Memory}
use Rattle.object_view.specs.declared.fields.ObjView.{ObjView}

-- the view of an object whose parts lie so
abbrev pub view_of : ℕ → ℕ → Layout → ObjView
view_of type_id birth layout = record {
  type_id = type_id;
  birth = birth;
  words = layout.words;
  int_start = layout.int_start;
  int_count = layout.int_count;
  ref_start = layout.ref_start;
  ref_count = layout.ref_count;
}

-- the view of the object at a place
abbrev pub view_at : Table TypeInfo → (ℕ → ℕ) → ℕ → ObjView
view_at types word place = view_of (type_id_at word place) (word (place + 1)) (layout_at types word place)

-- at the place stands a whole object of a type of the table
pub record HasObject (memory : Memory) (types : Table TypeInfo) (place : ℕ) : Type 0 where
  pub typed : IsSome (value_at types (type_id_at (word_at memory.blocks) place))
  pub whole : IsTrue (lies_in_one memory.blocks place (words_at types (word_at memory.blocks) place))

-- at the place stands a whole object with these parts: its whole numbers, and behind them its references
pub record HasView (memory : Memory) (v : ObjView) (place : ℕ) : Type 0 where
  pub whole : IsTrue (lies_in_one memory.blocks place v.words)
  pub fits : place + v.words < 2 ^ 64
  pub begins : place + 2 ≤ v.int_start
  pub ordered : v.int_start + v.int_count ≤ v.ref_start
  pub ends : v.ref_start + v.ref_count ≤ place + v.words
