-- What the words have to hold for the weak objects to be looked at.
use Rattle.std.specs.Prelude.{◌≡◌, ◌≢◌, ℕ, ◌+◌, ◌⊎◌, IsTrue, List}
use Rattle.type_table.specs.declared.info.Shape.TheVariants.{Weak}
use Rattle.type_table.specs.declared.info.TypeInfo.{TypeInfo}
use Rattle.type_table.specs.Table.{Table}
use Rattle.heap_space.specs.Places.{has, word_at, lies_in_one}
use Rattle.heap_space.specs.Memory.{Memory}
use Rattle.object_model.specs.Sets.{is_in}
use Rattle.object_model.specs.ObjectWords.{Covers, info_at}
use Rattle.object_view.specs.Moving.{place_now}
use Rattle.object_view.specs.Views.{HasObject}
use Rattle.weak_lists.specs.Targets.{is_outside, survives, target_at}

-- at these places stand whole objects that share no word
pub record AreObjects (types : Table TypeInfo) (memory : Memory) (places : List ℕ) : Type 0 where
  pub whole : (p : ℕ) → IsTrue (is_in p places) → HasObject memory types p
  pub apart : (p q at : ℕ) → IsTrue (is_in p places) → IsTrue (is_in q places)
      → Covers types (word_at memory.blocks) p at → Covers types (word_at memory.blocks) q at → p ≡ q

-- the object at x moved to one of the places, and left all bits and its new place in two words that are no object's now
pub record HasMoved (types : Table TypeInfo) (memory : Memory) (places : List ℕ) (x : ℕ) : Type 0 where
  pub marked : word_at memory.blocks x ≡ 18446744073709551615
  pub there : IsTrue (is_in (word_at memory.blocks (x + 1)) places)
  pub outside : (q : ℕ) → IsTrue (is_in q places)
      → Covers types (word_at memory.blocks) q x ⊎ Covers types (word_at memory.blocks) q (x + 1) → ⊥
  pub readable : IsTrue (lies_in_one memory.blocks x 2)

-- an object stands at x, or it moved
abbrev pub IsFollowed : Table TypeInfo → Memory → List ℕ → ℕ → Type 0
IsFollowed types memory places x = IsTrue (is_in x places) ⊎ HasMoved types memory places x

-- Inside a minor collection: each of the weak objects stands at its place or moved, and so does each target of those that
-- survived, or it is nil. What stands at a place does not look as if it had moved.
pub record CanFollow (types : Table TypeInfo) (nursery : ℕ) (memory : Memory) (weaks places : List ℕ) : Type 0 where
  pub objects : AreObjects types memory places
  pub unmoved : (p : ℕ) → IsTrue (is_in p places) → word_at memory.blocks p ≢ 18446744073709551615
  pub followed : (x : ℕ) → IsTrue (is_in x weaks) → IsFollowed types memory places x
  pub weak : (x : ℕ) → IsTrue (is_in x weaks)
      → (info_at types (word_at memory.blocks) (place_now (word_at memory.blocks) x)).shape ≡ Weak
  pub targets : (x : ℕ) → IsTrue (is_in x weaks) → IsTrue (survives nursery (word_at memory.blocks) (place_now (word_at memory.blocks) x))
      → let target = target_at types (word_at memory.blocks) (place_now (word_at memory.blocks) x) in
      (target ≡ 0) ⊎ IsFollowed types memory places target

-- Once marking has ended: at each place of the list stands a weak object, whose target is an object, is nil, or lies in the nursery.
pub record CanClear (types : Table TypeInfo) (nursery : ℕ) (memory : Memory) (weaks places : List ℕ) : Type 0 where
  pub objects : AreObjects types memory places
  pub there : (p : ℕ) → IsTrue (is_in p weaks) → IsTrue (is_in p places)
  pub weak : (p : ℕ) → IsTrue (is_in p weaks) → (info_at types (word_at memory.blocks) p).shape ≡ Weak
  pub targets : (p : ℕ) → IsTrue (is_in p weaks) → IsTrue (is_outside nursery (target_at types (word_at memory.blocks) p))
      → IsTrue (is_in (target_at types (word_at memory.blocks) p) places)

-- The same inside a minor collection, for the weak objects that survived, where they are now.
pub record CanSettle (types : Table TypeInfo) (memory : Memory) (left places : List ℕ) : Type 0 where
  pub objects : AreObjects types memory places
  pub unmoved : (p : ℕ) → IsTrue (is_in p places) → word_at memory.blocks p ≢ 18446744073709551615
  pub there : (p : ℕ) → IsTrue (is_in p left) → IsTrue (is_in p places)
  pub weak : (p : ℕ) → IsTrue (is_in p left) → (info_at types (word_at memory.blocks) p).shape ≡ Weak
  pub targets : (p : ℕ) → IsTrue (is_in p left)
      → (target_at types (word_at memory.blocks) p ≡ 0) ⊎ IsFollowed types memory places (target_at types (word_at memory.blocks) p)

-- two words can be read at x, and one where its object is now
pub record CanRead (memory : Memory) (x : ℕ) : Type 0 where
  pub two : IsTrue (lies_in_one memory.blocks x 2)
  pub now : IsTrue (has memory.blocks (place_now (word_at memory.blocks) x))
