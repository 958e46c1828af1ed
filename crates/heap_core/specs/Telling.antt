-- Homes that are told.
use Rattle.std.specs.Prelude.{◌≡◌, ℕ, ◌<◌, None}
use Rattle.store_model.specs.Store.{Store}
use Rattle.store_model.specs.Identity.{TellsHome}
use Rattle.heap_parts.specs.Parts.{HeapParts, place_in, home_in}
use Rattle.heap_parts.specs.StandsFor.{PartsStandFor}
use Rattle.heap_core.specs.Heap.{HeapSeen}
use Rattle.heap_core.specs.Commands.{OfParts}

-- the object in a slot is in the nursery, and no home is reserved for it yet
pub record NeedsHome (heap : HeapParts) (root : ℕ) : Type 0 where
  pub young : place_in heap root < 4294967296
  pub none : home_in heap (place_in heap root) ≡ None

-- and so it is in a heap that was started
abbrev pub NeedsHomeIn : HeapSeen → ℕ → Type 0
NeedsHomeIn heap root = OfParts heap.parts (λ parts. NeedsHome parts root)

-- The home of the object in a slot is told: settings and types stay, and for each store that the parts stood for they stand for
-- one in which that is its home.
pub record PartsTell (old new : HeapParts) (root home : ℕ) : Type 0 where
  pub setup : new.setup ≡ old.setup
  pub tells : (store : Store) → PartsStandFor old store → (later : Store) × TellsHome store root home later × PartsStandFor new later
