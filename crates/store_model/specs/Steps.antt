-- What each command may print and leave.
use Rattle.std.specs.Prelude.{◌≡◌, ℕ, ◌^◌, ◌<◌, List, [], ◌∷◌, Option, Some, None, slice_index, option_map, option_and_then}
use Rattle.type_table.specs.Table.{value_at}
use Rattle.text_model.specs.declared.command.Command.{Command}
use Rattle.text_model.specs.declared.command.Command.TheVariants.{NewFixed, NewArray, NewWeak, Put, Get, Link, Load, CopyRefs, MoveRoot, DropRoot, Same, Ident, Hash, Place, Pin, Unpin, Deref, Register, NextFinal, MakeLink, Inc, Dec, Count, FromObj, ToObj, NextDead, Minor, Step, Collect, Used}
use Rattle.text_model.specs.declared.line.Line.{Line}
use Rattle.text_model.specs.declared.line.Line.TheVariants.{Got, Loaded, SameAs, IdentIs, HashIs, PinIs, Derefed, NextIs, CountIs, FromObjIs, ToObjIs, NextDeadIs, UsedIs}
use Rattle.object_model.specs.Setup.{Setup}
use Rattle.store_model.specs.Store.{Store, husk_words}
use Rattle.object_model.specs.Object.{kept_words}
use Rattle.store_model.specs.Slots.{held, object_in, put_in_slot, is_same}
use Rattle.object_model.specs.Fields.{changed_at, with_int, with_ref, ints_of, refs_of, ref_in}
use Rattle.store_model.specs.Structs.{count_of, p_link_of}
use Rattle.store_model.specs.Births.{Births, fixed_request, array_request, weak_request}
use Rattle.store_model.specs.MinorCollection.{MinorCollection}
use Rattle.store_model.specs.Collections.{Block, always, Collect as CollectsFrom}
use Rattle.store_model.specs.Identity.{TellsHome, hash_of, TellsPlace, is_settled_in, can_pin, pin_slot, unpin_slot}
use Rattle.store_model.specs.PlainCommands.{copy_refs, Revives, target_at, register_slot, next_of, take_next, link_struct, raise_struct, lower_struct, forced_anew, dealloc_lines, take_dead_struct, first_number, linked_object}

-- the whole number in an item of the object in a slot
abbrev pub int_at : Store → ℕ → ℕ → ℕ
int_at store root item = slice_index (ints_of (object_in store.slots store.kept root)) item

-- the reference in an item of the object in a slot
abbrev pub ref_at : Store → ℕ → ℕ → Option ℕ
ref_at store root item = ref_in (refs_of (object_in store.slots store.kept root)) item

-- the store with a whole number put into the object in a slot
abbrev pub put_int : Store → ℕ → ℕ → ℕ → Store
put_int store root item value = record store { kept = changed_at (held store.slots root) (with_int item value) store.kept }

-- the store with a reference put into the object in a slot
abbrev pub put_ref : Store → ℕ → ℕ → Option ℕ → Store
put_ref store root item birth = record store { kept = changed_at (held store.slots root) (with_ref item birth) store.kept }

-- from old, the command may print these lines and leave new
unfoldable pub Does : Setup → Store → Command → List Line → Store → Type 0
Does setup old (NewFixed root type_id) lines new = Births setup old (fixed_request root type_id) lines new
Does setup old (NewArray root type_id len) lines new = Births setup old (array_request root type_id len) lines new
Does setup old (NewWeak root type_id target) lines new = Births setup old (weak_request old root type_id target) lines new
Does setup old (Put root item value) lines new = (lines ≡ []) × (new ≡ put_int old root item value)
Does setup old (Get root item) lines new = (lines ≡ Got (int_at old root item) ∷ []) × (new ≡ old)
Does setup old (Link root item from) lines new = (lines ≡ []) × (new ≡ put_ref old root item (held old.slots from))
Does setup old (Load to root item) lines new =
    (lines ≡ Loaded (ref_at old root item) ∷ []) × (new ≡ put_in_slot old to (ref_at old root item))
Does setup old (CopyRefs root item from from_item count) lines new = (lines ≡ []) × (new ≡ copy_refs old root item from from_item count)
Does setup old (MoveRoot to from) lines new = (lines ≡ []) × (new ≡ put_in_slot old to (held old.slots from))
Does setup old (DropRoot root) lines new = (lines ≡ []) × (new ≡ put_in_slot old root None)
Does setup old (Same a b) lines new = (lines ≡ SameAs (is_same (held old.slots a) (held old.slots b)) ∷ []) × (new ≡ old)
Does setup old (Ident root) lines new = (place : ℕ) × TellsHome old root place new × (lines ≡ IdentIs place ∷ [])
Does setup old (Hash root) lines new = (place : ℕ) × (place < 2 ^ 64) × TellsHome old root place new × (lines ≡ HashIs (hash_of place) ∷ [])
Does setup old (Place root) lines new = TellsPlace (is_settled_in old (held old.slots root)) old root lines new
Does setup old (Pin root) lines new =
    (lines ≡ PinIs (can_pin setup.settings.pins old root) ∷ []) × (new ≡ pin_slot setup.settings.pins old root)
Does setup old (Unpin root) lines new = (lines ≡ []) × (new ≡ unpin_slot old root)
Does setup old (Deref to root) lines new =
    (lines ≡ Derefed (target_at old root) ∷ []) × Revives (put_in_slot old to (target_at old root)) (target_at old root) new
Does setup old (Register root queue) lines new = (lines ≡ []) × (new ≡ register_slot old root queue)
Does setup old (NextFinal to queue) lines new = (lines ≡ NextIs (next_of old queue) ∷ []) × (new ≡ take_next old to queue)
Does setup old (MakeLink p number root light own) lines new = (lines ≡ []) × (new ≡ link_struct old p number root light own)
Does setup old (Inc number) lines new =
    (lines ≡ []) × Revives (raise_struct old number) (forced_anew (value_at old.structs number)) new
Does setup old (Dec number) lines new = (lines ≡ dealloc_lines number (value_at old.structs number)) × (new ≡ lower_struct old number)
Does setup old (Count number) lines new =
    (count : ℕ) × (option_map count_of (value_at old.structs number) ≡ Some count) × (lines ≡ CountIs count ∷ []) × (new ≡ old)
Does setup old (FromObj root) lines new =
    (lines ≡ FromObjIs (option_and_then (p_link_of old.structs) (held old.slots root)) ∷ []) × (new ≡ old)
Does setup old (ToObj to number) lines new =
    (lines ≡ ToObjIs (linked_object old number) ∷ []) × Revives (put_in_slot old to (linked_object old number)) (linked_object old number) new
Does setup old NextDead lines new = (lines ≡ NextDeadIs (first_number old.dead) ∷ []) × (new ≡ take_dead_struct old)
Does setup old Minor lines new = MinorCollection old lines new
Does setup old Step lines new = Block always setup.settings old lines new
Does setup old Collect lines new = CollectsFrom setup.settings old lines new
Does setup old Used lines new = (lines ≡ UsedIs (kept_words old.kept) (husk_words old.husks) ∷ []) × (new ≡ old)
