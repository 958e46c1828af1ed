-- Registered objects are followed, and keep their places; so are all lists that lead to objects.
use Rattle.std.specs.Prelude.{◌≡◌, ℕ, ◌<◌, ◌≤◌, ◌==◌, ◌&&◌, not, false, IsTrue, List, length, map, slice_get, slice_set, Some}
use Rattle.object_model.specs.Sets.{is_in}
use Rattle.store_model.specs.Structs.{forced_objects}
use Rattle.store_model.specs.MinorCollection.{is_unsettled}
use Rattle.heap_parts.specs.Parts.{HeapParts}
use Rattle.minor_collect.specs.declared.work.Moving.{Moving}
use Rattle.minor_collect.specs.Midway.{Owes}
use Rattle.minor_collect.specs.Calls.{Stage, Spot, Standing, Grows, AddsTodo}

-- the places of the registered objects, in order of registration
abbrev pub registered_places : HeapParts → List ℕ
registered_places heap = map (λ entry. entry.0) heap.registered

-- one registered object less is owed
abbrev pub without_registered : Owes → ℕ → Owes
without_registered owes k = record owes { registered = λ j. not (j == k) && owes.registered j }

-- a registered object that stood at a place stands at another
pub record MovesEntry (old new : HeapParts) (from to : ℕ) : Type 0 where
  pub which : ℕ
  pub queue : ℕ
  pub was : slice_get old.registered which ≡ Some (from, queue)
  pub is : new ≡ record old { registered = slice_set old.registered which (to, queue) }

-- a registered object can be followed
pub record CanFollowEntry (now : HeapParts) (moving : Moving) (p : ℕ) : Type 0 where
  pub stage : Stage
  pub spot : Spot
  pub standing : Standing stage now moving spot
  pub there : IsTrue (is_in p (registered_places now))

-- The registered object at p was followed: it has the place where it is now, and is not owed any more.
pub record FollowedEntry (stage : Stage) (old new : HeapParts) (moving_old moving_new : Moving) (before : Spot) (p : ℕ) : Type 0 where
  pub after : Spot
  pub standing : Standing stage new moving_new after
  pub grows : Grows stage before after
  pub adds : AddsTodo moving_old moving_new before after
  pub which : ℕ
  pub queue : ℕ
  pub place : ℕ
  pub was : slice_get old.registered which ≡ Some (p, queue)
  pub is : new.registered ≡ slice_set old.registered which (place, queue)
  pub owes_are : after.owes ≡ without_registered before.owes which
  pub held_same : after.held ≡ before.held
  pub only : new ≡ record old { memory = new.memory; shadows = new.shadows; old_blocks = new.old_blocks; links = new.links; registered = new.registered }

-- Registered objects were followed: of those below a number nothing is owed any more, and the others are as they were.
pub record FollowedEntries (stage : Stage) (old new : HeapParts) (moving_old moving_new : Moving) (before : Spot) (count : ℕ) : Type 0 where
  pub after : Spot
  pub standing : Standing stage new moving_new after
  pub grows : Grows stage before after
  pub adds : AddsTodo moving_old moving_new before after
  pub paid : (k : ℕ) → k < count → after.owes.registered k ≡ false
  pub fewer : (k : ℕ) → before.owes.registered k ≡ false → after.owes.registered k ≡ false
  pub rest : after.owes ≡ record before.owes { registered = after.owes.registered }
  pub later : (k : ℕ) → count ≤ k → slice_get new.registered k ≡ slice_get old.registered k
  pub held_same : after.held ≡ before.held
  pub only : new ≡ record old { memory = new.memory; shadows = new.shadows; old_blocks = new.old_blocks; links = new.links; registered = new.registered }

-- Slots, registered objects and what structures keep were followed: nothing is owed of those lists, and what structures keep is found,
-- or settled.
pub record FollowedRoots (stage : Stage) (old new : HeapParts) (moving_old moving_new : Moving) (before : Spot) : Type 0 where
  pub after : Spot
  pub standing : Standing stage new moving_new after
  pub grows : Grows stage before after
  pub adds : AddsTodo moving_old moving_new before after
  pub slots_paid : (k : ℕ) → k < length old.slots → after.owes.slots k ≡ false
  pub slots_fewer : (k : ℕ) → before.owes.slots k ≡ false → after.owes.slots k ≡ false
  pub registered_paid : (k : ℕ) → k < length old.registered → after.owes.registered k ≡ false
  pub registered_fewer : (k : ℕ) → before.owes.registered k ≡ false → after.owes.registered k ≡ false
  pub rest : after.owes ≡ record before.owes { slots = after.owes.slots; registered = after.owes.registered }
  pub held_same : after.held ≡ before.held
  pub found : (x : ℕ) → IsTrue (is_in x (forced_objects stage.store.structs)) → IsTrue (is_unsettled stage.store x) → IsTrue (is_in x after.placing.found)
  pub only : new ≡ record old { memory = new.memory; shadows = new.shadows; old_blocks = new.old_blocks; links = new.links; slots = new.slots; registered = new.registered }
