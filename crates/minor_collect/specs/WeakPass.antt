-- The pass over the weak objects.
use Rattle.std.specs.Prelude.{◌≡◌, ℕ, List, []}
use Rattle.weak_lists.specs.Targets.{ChangesTargets, weaks_left, followed, is_gone}
use Rattle.weak_lists.specs.Cleared.{TellsInOrder, births_losing}
use Rattle.heap_parts.specs.Parts.{HeapParts, word_in}
use Rattle.minor_collect.specs.Calls.{Stage, Spot, Middle}

-- the parts are in some middle, but for what was queued since, and the weak objects are listed as they were when the collection began
pub record CanPassWeaks (now : HeapParts) : Type 0 where
  pub stage : Stage
  pub spot : Spot
  pub before : HeapParts
  pub middle : Middle stage before spot []
  pub only : now ≡ record before { gray = now.gray }
  pub weaks : before.weaks ≡ stage.start.weaks

-- Weak objects that are gone are listed no longer, targets follow or are cleared, and the births of those that lose theirs are told by
-- rising birth.
pub record PassesWeaks (old new : HeapParts) (told_old told_new : List ℕ) : Type 0 where
  pub left : new.weaks ≡ weaks_left old.nursery.words (word_in old) old.weaks
  pub targets : ChangesTargets old.setup.types (followed old.nursery.words (word_in old)) old.memory new.memory new.weaks
  pub told : TellsInOrder (births_losing old.setup.types (word_in old) (is_gone old.nursery.words (word_in old)) new.weaks) told_old told_new
  pub only : new ≡ record old { memory = new.memory; weaks = new.weaks }
