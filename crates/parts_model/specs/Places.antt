-- Places of objects, in the nursery and outside it.
use Rattle.std.specs.Prelude.{ℕ, ◌+◌, ◌≤◌, Bool, not, nat_lt, IsTrue, List, [], ◌∷◌, filter}
use Rattle.heap_space.specs.Memory.{Memory}
use Rattle.heap_space.specs.Extents.{Extent}
use Rattle.object_view.specs.Views.{HasObject}
use Rattle.type_table.specs.declared.info.TypeInfo.{TypeInfo}
use Rattle.type_table.specs.Table.{Table}
use Rattle.object_model.specs.Sets.{is_in}
use Rattle.object_model.specs.Shapes.{is_weak_shape}
use Rattle.object_model.specs.ObjectWords.{words_at, info_at}

-- whether a place lies in the nursery
abbrev pub is_young : ℕ → Bool
is_young place = nat_lt place 4294967296

-- the places in the nursery, and those outside it
abbrev pub young_places : List ℕ → List ℕ
young_places places = filter is_young places

abbrev pub old_places : List ℕ → List ℕ
old_places places = filter (λ place. not (is_young place)) places

-- each of these is among the places
abbrev pub AreAmong : List ℕ → List ℕ → Type 0
AreAmong places ps = (p : ℕ) → IsTrue (is_in p ps) → IsTrue (is_in p places)

-- the block of the object at a place: it has just the object's words
abbrev pub block_at : Table TypeInfo → (ℕ → ℕ) → ℕ → Extent
block_at types word place = (place, words_at types word place)

-- whether the object at a place is weak
abbrev pub is_weak_at : Table TypeInfo → (ℕ → ℕ) → ℕ → Bool
is_weak_at types word place = is_weak_shape (info_at types word place).shape

-- each object stands whole in one block of words
abbrev pub AreWhole : Memory → Table TypeInfo → List ℕ → Type 0
AreWhole memory types places = (p : ℕ) → IsTrue (is_in p places) → HasObject memory types p

-- something holds of the first word of each
pub record OfFirsts (P : ℕ → ℕ → Type 0) (places : List ℕ) (word : ℕ → ℕ) : Type 0 where
  pub each : (p : ℕ) → IsTrue (is_in p places) → P p (word p)

-- births that rise from a least one on, all before the next one
abbrev pub RiseBetween : ℕ → List ℕ → ℕ → Type 0
RiseBetween least [] next = least ≤ next
RiseBetween least (birth ∷ births) next = (least ≤ birth) × RiseBetween (birth + 1) births next
