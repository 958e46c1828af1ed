-- What is gone once nothing moves any more, as the code lists it.
use Rattle.std.specs.Prelude.{◌≡◌, ℕ, false, IsTrue, List, []}
use Rattle.std.specs.List.Sorted.{IsPermutation, IsNonDecreasing}
use Rattle.object_model.specs.Sets.{is_in, AreDifferent}
use Rattle.heap_parts.specs.Parts.{HeapParts, pinned_places}
use Rattle.minor_collect.specs.Midway.{is_lasting}
use Rattle.minor_collect.specs.Calls.{Stage, Spot, Middle}
use Rattle.minor_collect.specs.Walks.{births_destroyed}

-- the parts are in some middle
pub record IsMidway (now : HeapParts) : Type 0 where
  pub stage : Stage
  pub spot : Spot
  pub middle : Middle stage now spot []

-- what is gone is listed once each, and the births of what of it has a destructor, by rising birth
pub record FindsVanished (stage : Stage) (spot : Spot) (now : HeapParts) (dead destroyed : List ℕ) : Type 0 where
  pub once : AreDifferent dead
  pub just : (p : ℕ) → IsTrue (is_in p dead) → IsTrue (is_in p spot.placing.places) × (is_lasting (pinned_places stage.start) p ≡ false)
  pub all : (p : ℕ) → IsTrue (is_in p spot.placing.places) → is_lasting (pinned_places stage.start) p ≡ false → IsTrue (is_in p dead)
  pub destroyed_are : IsPermutation (births_destroyed now dead) destroyed
  pub destroyed_rise : IsNonDecreasing destroyed
