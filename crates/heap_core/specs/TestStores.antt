-- The stores that the heap of a test stands for, one behind each call.
use Rattle.std.specs.Prelude.{◌≡◌, ℕ, zero, suc, true, false, [], ◌∷◌, Some, None, IsSome}
use Rattle.type_table.specs.declared.info.TypeInfo.{TypeInfo}
use Rattle.type_table.specs.declared.info.Shape.TheVariants.{Fixed}
use Rattle.type_table.specs.Table.{Table, value_at}
use Rattle.object_model.specs.declared.settings.Settings.{Settings}
use Rattle.object_model.specs.ObjectWords.{info_at, info_or_weak}
use Rattle.object_model.specs.Setup.{Setup, defaults}
use Rattle.store_model.specs.Birth.{with_birth}
use Rattle.store_model.specs.Births.{fixed_request}
use Rattle.store_model.specs.Slots.{held, put_in_slot}
use Rattle.store_model.specs.Steps.{put_int, put_ref}
use Rattle.store_model.specs.Store.{Store, empty_store}
use Rattle.heap_parts.specs.Parts.{HeapParts, word_in, place_in}
use Rattle.heap_parts.specs.Effects.{HasObjectIn}
use Rattle.heap_core.specs.Heap.{HeapSeen, StandsFor}
use Rattle.heap_core.specs.Commands.{setup_in}

-- the heap was started with these settings and types, and stands for the store
pub record Runs (setup : Setup) (heap : HeapSeen) (store : Store) : Type 0 where
  pub live : heap.is_spent ≡ false
  pub setup_is : setup_in heap ≡ Some setup
  pub stands : StandsFor heap store

-- one whole number and one reference
abbrev pub pair : TypeInfo
pair = record { shape = Fixed 1 1; destructor = false }

abbrev pub pairs : Setup
pairs = record { settings = defaults; types = (1, pair) ∷ [] }

-- so many objects in the first slots
abbrev pub newborns : ℕ → Store
newborns zero = empty_store defaults
newborns (suc n) = with_birth false (newborns n) pair (fixed_request n 1)

-- the first refers to the second
abbrev pub linked : Store
linked = put_ref (newborns 3) 0 0 (held (newborns 3).slots 1)

-- its whole number was written
abbrev pub numbered : Store
numbered = put_int linked 0 0 77

-- its reference was written
abbrev pub relinked : Store
relinked = put_ref numbered 0 0 (held numbered.slots 2)

-- objects of more than 8 words are old, and of more than 16 words large
abbrev pub tight_settings : Settings
tight_settings = record defaults { young = 8; small = 16 }

abbrev pub fixed_info : ℕ → ℕ → TypeInfo
fixed_info ints refs = record { shape = Fixed ints refs; destructor = false }

abbrev pub tight_types : Table TypeInfo
tight_types = (3, fixed_info 9 1) ∷ (4, fixed_info 17 1) ∷ (6, fixed_info 9 1) ∷ []

abbrev pub tight_setup : Setup
tight_setup = record { settings = tight_settings; types = tight_types }

-- a small old object, and then a large one
abbrev pub one_old : Store
one_old = with_birth true (empty_store tight_settings) (fixed_info 9 1) (fixed_request 0 3)

abbrev pub two_old : Store
two_old = with_birth true one_old (fixed_info 17 1) (fixed_request 1 4)

-- a third, small and old
abbrev pub three_old : Store
three_old = with_birth true two_old (fixed_info 9 1) (fixed_request 2 3)

-- the first refers to the second
abbrev pub held_old : Store
held_old = put_ref three_old 0 0 (held three_old.slots 1)

-- and is alone in a slot
abbrev pub left_old : Store
left_old = put_in_slot (put_in_slot held_old 1 None) 2 None

-- the object in a slot may become one of another type, of the same shape
pub record CanRetype (heap : HeapParts) (root id : ℕ) : Type 0 where
  pub object : HasObjectIn heap root
  pub known : IsSome (value_at heap.setup.types id)
  pub shape : (info_or_weak (value_at heap.setup.types id)).shape ≡ (info_at heap.setup.types (word_in heap) (place_in heap root)).shape
