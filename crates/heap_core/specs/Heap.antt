-- A heap as a contract sees it, and which stores it stands for.
use Rattle.std.specs.Prelude.{◌≡◌, Bool, true, false, Option, Some, None}
use Rattle.object_model.specs.declared.settings.Settings.{Settings}
use Rattle.store_model.specs.Store.{Store, empty_store}
use Rattle.heap_parts.specs.Parts.{HeapParts}
use Rattle.heap_parts.specs.StandsFor.{PartsStandFor}

-- a heap: its parts, if it was started and is not spent, and whether it is spent
pub record HeapSeen : Type 0 where
  pub parts : Option HeapParts
  pub is_spent : Bool

-- a heap that was not started
abbrev pub closed_heap : HeapSeen
closed_heap = record { parts = None; is_spent = false }

-- a heap that can't be used any more, since memory was out in the middle of a collection
abbrev pub spent_heap : HeapSeen
spent_heap = record { parts = None; is_spent = true }

-- a heap with these parts
abbrev pub heap_of : HeapParts → HeapSeen
heap_of parts = record { parts = Some parts; is_spent = false }

-- a spent heap stands for no store, a closed one for the empty store of any settings
abbrev pub StandsForIf : Bool → Option HeapParts → Store → Type 0
StandsForIf true parts store = ⊥
StandsForIf false None store = (settings : Settings) × (store ≡ empty_store settings)
StandsForIf false (Some parts) store = PartsStandFor parts store

-- which store a heap stands for
abbrev pub StandsFor : HeapSeen → Store → Type 0
StandsFor heap store = StandsForIf heap.is_spent heap.parts store
