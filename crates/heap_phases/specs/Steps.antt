-- What a major step asks for, and what it tells of husks.
use Rattle.std.specs.Prelude.{◌≡◌, ◌+◌, []}
use Rattle.store_model.specs.Store.{Store, husk_words}
use Rattle.heap_parts.specs.Places.{old_places}
use Rattle.heap_parts.specs.Parts.{HeapParts, pinned_places}
use Rattle.heap_parts.specs.Collects.{IsCollected}
use Rattle.heap_phases.specs.declared.StepEnd.{StepEnd}

-- the parts stand for some store, right after a minor collection
pub record CanStep (heap : HeapParts) : Type 0 where
  pub store : Store
  pub collected : IsCollected heap store

-- the words of husks that a step made and freed, as the parts count them
pub record CountsHusks (old new : HeapParts) (end : StepEnd) : Type 0 where
  pub husks : husk_words new.husk_list + end.freed_words ≡ husk_words old.husk_list + end.husk_words
  pub old_words : new.old_words + end.freed_words ≡ old.old_words

-- the roots may be queued: no pinned object lies outside the nursery, and none was chosen for its finalizer
pub record CanQueue (heap : HeapParts) : Type 0 where
  pub pins : old_places (pinned_places heap) ≡ []
  pub chosen : heap.chosen ≡ []
