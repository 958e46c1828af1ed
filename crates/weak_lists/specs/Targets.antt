-- What becomes of weak objects and their targets, over words and places. A nursery is its number of words.
use Rattle.std.specs.Prelude.{◌≡◌, ◌≢◌, ℕ, ◌==◌, ◌&&◌, ◌||◌, Bool, not, nat_lt, if◌then◌else◌, IsTrue, List, map, filter}
use Rattle.type_table.specs.declared.info.TypeInfo.{TypeInfo}
use Rattle.type_table.specs.Table.{Table}
use Rattle.heap_space.specs.Places.{word_at}
use Rattle.heap_space.specs.Memory.{Memory}
use Rattle.heap_space.specs.Extents.{extent_of}
use Rattle.object_header.specs.Words.{has_flag}
use Rattle.object_header.specs.declared.flags.Flag.TheVariants.{Pinned, Visited}
use Rattle.object_model.specs.Sets.{is_in}
use Rattle.object_model.specs.ObjectWords.{layout_at}
use Rattle.object_view.specs.Moving.{place_now}

-- whether a place lies behind the nursery's words: it is not nil, and the nursery does not hold it
abbrev pub is_outside : ℕ → ℕ → Bool
is_outside nursery place = nat_lt nursery place

-- whether the object at a place survived a minor collection: it lies outside the nursery, or it is pinned
abbrev pub survives : ℕ → (ℕ → ℕ) → ℕ → Bool
survives nursery word place = is_outside nursery place || has_flag (word place) Pinned

-- where the weak objects that survived are now, in their order
abbrev pub weaks_left : ℕ → (ℕ → ℕ) → List ℕ → List ℕ
weaks_left nursery word weaks = filter (survives nursery word) (map (place_now word) weaks)

-- where the object of a place is now, and 0 where it vanished
abbrev pub left_at : ℕ → (ℕ → ℕ) → ℕ → ℕ
left_at nursery word place = if survives nursery word (place_now word place) then place_now word place else 0

-- whether a target vanished in a minor collection
abbrev pub is_gone : ℕ → (ℕ → ℕ) → ℕ → Bool
is_gone nursery word target = not (target == 0) && not (survives nursery word (place_now word target))

-- a target after a minor collection: where it is now, and nil where it vanished
abbrev pub followed : ℕ → (ℕ → ℕ) → ℕ → ℕ
followed nursery word target = if is_gone nursery word target then 0 else place_now word target

-- whether a target lies outside the nursery and marking did not visit it
abbrev pub is_unvisited : ℕ → (ℕ → ℕ) → ℕ → Bool
is_unvisited nursery word target = is_outside nursery target && not (has_flag (word target) Visited)

-- a target after marking: nil where it was not visited
abbrev pub kept_target : ℕ → (ℕ → ℕ) → ℕ → ℕ
kept_target nursery word target = if is_unvisited nursery word target then 0 else target

-- the place of the word in which the weak object at a place has its target
abbrev pub target_place : Table TypeInfo → (ℕ → ℕ) → ℕ → ℕ
target_place types word place = (layout_at types word place).ref_start

-- the target of the weak object at a place
abbrev pub target_at : Table TypeInfo → (ℕ → ℕ) → ℕ → ℕ
target_at types word place = word (target_place types word place)

-- The targets of the weak objects at these places become what the function tells, and nothing else changes.
pub record ChangesTargets (types : Table TypeInfo) (becomes : ℕ → ℕ) (old new : Memory) (places : List ℕ) : Type 0 where
  pub written : (p : ℕ) → IsTrue (is_in p places)
      → word_at new.blocks (target_place types (word_at old.blocks) p) ≡ becomes (target_at types (word_at old.blocks) p)
  pub elsewhere : (b : ℕ) → ((p : ℕ) → IsTrue (is_in p places) → b ≢ target_place types (word_at old.blocks) p)
      → word_at new.blocks b ≡ word_at old.blocks b
  pub extents : map extent_of new.blocks ≡ map extent_of old.blocks
  pub rest : new ≡ record old { blocks = new.blocks }

-- The word at a place becomes this, and nothing else changes.
pub record SetsWord (at to : ℕ) (old new : Memory) : Type 0 where
  pub written : word_at new.blocks at ≡ to
  pub elsewhere : (b : ℕ) → b ≢ at → word_at new.blocks b ≡ word_at old.blocks b
  pub extents : map extent_of new.blocks ≡ map extent_of old.blocks
  pub rest : new ≡ record old { blocks = new.blocks }
