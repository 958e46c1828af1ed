-- What is known of C structures where a command on them is not refused.
use Rattle.std.proofs.Common.{◌≡◌, ◌≢◌, ℕ, ◌<◌, ◌≤◌, Bool, true, false, IsTrue, length, Option, Some, None, refl, sym, ap, subst, inl, inr}
use Rattle.std.specs.Prelude.{not, nat_le, is_none, is_some, ◌&&◌, ◌||◌, IsSome, IsSomeAnd}
use Rattle.std.proofs.lemmas.Bool.{leb-false, ltb-false, ne_eqb}
use Rattle.std.proofs.lemmas.Bool.Decides.{eqb_tells}
use Rattle.type_table.specs.declared.info.TypeInfo.{TypeInfo}
use Rattle.type_table.specs.Table.{Table, value_at}
use Rattle.text_model.specs.declared.command.Command.TheVariants.{MakeLink, Inc, Dec as DecCommand, Count, FromObj, ToObj}
use Rattle.text_model.specs.declared.item.Reason.TheVariants.{NilRoot, StructUsed, HasPLink, CountFull, CountZero, Range}
use Rattle.text_model.specs.Range.{is_above, is_above_ids, is_above_counts}
use Rattle.store_model.specs.Checks.{first_reason}
use Rattle.store_model.specs.StructChecks.{is_absent, struct_checks, inc_checks, dec_checks}
use Rattle.store_model.specs.Store.{Struct, Linked, Unlinked, Pending}
use Rattle.store_model.specs.Structs.{state_of, p_link_of}
use Rattle.rawref_links.specs.Conditions as links
use Rattle.heap_parts.specs.Parts.{HeapParts, word_in, place_in}
use Rattle.heap_parts.specs.Told.{kind_at, if_there}
use Rattle.store_model.proofs.StructChanges as rises
use Rattle.heap_core.specs.Commands.{AreReady}
use Rattle.heap_core.proofs.Ready.{passed, one_slot, slot_in, or_false}

-- a structure that is used without refusal is there
struct_found : (found : Option Struct) → first_reason (struct_checks (state_of found)) ≡ None → (t : Struct) × (found ≡ Some t)
struct_found None e = absurd (let no : ⊥ = cc in no)
struct_found (Some t) e = (t, refl)

-- a count that is raised without refusal can rise
rise_found : (found : Option Struct) → first_reason (inc_checks (state_of found)) ≡ None → (t : Struct) × (found ≡ Some t) × rises.CanRise t
rise_found None e = absurd (let no : ⊥ = cc in no)
rise_found (Some (Linked p light object own)) e =
    (Linked p light object own, refl, leb-false 4294967295 own (passed (nat_le 4294967295 own) CountFull None e).0)
rise_found (Some (Unlinked own)) e = (Unlinked own, refl, leb-false 4294967295 own (passed (nat_le 4294967295 own) CountFull None e).0)
rise_found (Some Pending) e = absurd (let no : ⊥ = cc in no)

-- a count that is lowered without refusal can fall
fall_found : (found : Option Struct) → first_reason (dec_checks (state_of found)) ≡ None → (t : Struct) × (found ≡ Some t) × rises.CanFall t
fall_found None e = absurd (let no : ⊥ = cc in no)
fall_found (Some (Linked p light object own)) e =
    (Linked p light object own, refl, leb-false own 0 (passed (nat_le own 0) CountZero None e).0)
fall_found (Some (Unlinked own)) e = (Unlinked own, refl, leb-false own 0 (passed (nat_le own 0) CountZero None e).0)
fall_found (Some Pending) e = absurd (let no : ⊥ = cc in no)

-- where a slot is not told to be empty, its place is not 0
pub full_place : (types : Table TypeInfo) (word : ℕ → ℕ) (place : ℕ) → is_none (kind_at types word place) ≡ false → place ≢ 0
full_place types word place e = elim (eqb_tells place 0) [
  | inl is ↦ absurd (let yes : is_none (kind_at types word place) ≡ true = rw is.0 refl in let no : ⊥ = cc in no)
  | inr is ↦ is.1
]

-- a number that is not used has no structure
absent_found : (found : Option Struct) → not (is_absent (state_of found)) ≡ false → found ≡ None
absent_found None e = refl
absent_found (Some (Linked p light object own)) e = absurd (let no : ⊥ = cc in no)
absent_found (Some (Unlinked own)) e = absurd (let no : ⊥ = cc in no)
absent_found (Some Pending) e = absurd (let no : ⊥ = cc in no)

-- an object that may get a P link has none
free_found : (p : Bool) (place : ℕ) (found : Option ℕ) → (p && if_there place (is_some found)) ≡ false → place ≢ 0 → IsTrue p → found ≡ None
free_found true place None e full t = refl
free_found true place (Some n) e full t = absurd (let there : if_there place true ≡ true = rw (ne_eqb place 0 full) refl in let no : ⊥ = cc in no)
free_found false place found e full t = absurd (let no : ⊥ = cc in no)

pub count_ready : (heap : HeapParts) (number : ℕ) → AreReady heap (Count number) → (t : Struct) × (value_at heap.links.structs number ≡ Some t)
count_ready heap number ready = struct_found (value_at heap.links.structs number) (passed (is_above (Count number)) Range _ ready.accepted).1

pub inc_ready : (heap : HeapParts) (number : ℕ) → AreReady heap (Inc number) → (t : Struct) × (value_at heap.links.structs number ≡ Some t) × rises.CanRise t
inc_ready heap number ready = rise_found (value_at heap.links.structs number) (passed (is_above (Inc number)) Range _ ready.accepted).1

pub dec_ready : (heap : HeapParts) (number : ℕ) → AreReady heap (DecCommand number) → (t : Struct) × (value_at heap.links.structs number ≡ Some t) × rises.CanFall t
dec_ready heap number ready = fall_found (value_at heap.links.structs number) (passed (is_above (DecCommand number)) Range _ ready.accepted).1

pub from_obj_ready : (heap : HeapParts) (root : ℕ) → AreReady heap (FromObj root) → place_in heap root ≢ 0
from_obj_ready heap root ready =
    let one = one_slot heap.setup.settings.roots root (is_above (FromObj root)) _ ready.accepted in
    full_place heap.setup.types (word_in heap) (place_in heap root) (passed (is_none (kind_at heap.setup.types (word_in heap) (place_in heap root))) NilRoot _ one.1).0

pub to_obj_ready : (heap : HeapParts) (to number : ℕ) → AreReady heap (ToObj to number)
    → (t : Struct) × (value_at heap.links.structs number ≡ Some t) × (to < length heap.slots)
to_obj_ready heap to number ready =
    let one = one_slot heap.setup.settings.roots to (is_above (ToObj to number)) _ ready.accepted in
    let found = struct_found (value_at heap.links.structs number) one.1 in (found.0, found.1, slot_in heap to ready.standing one.0)

-- A structure can be made for the object in a slot.
pub record CanLink (heap : HeapParts) (p : Bool) (number root own : ℕ) : Type 0 where
  pub full : place_in heap root ≢ 0
  pub absent : value_at heap.links.structs number ≡ None
  pub free : IsTrue p → p_link_of heap.links.structs (place_in heap root) ≡ None
  pub few_numbers : number ≤ 65535
  pub few : own ≤ 4294967295

make_link_in_range : (p : Bool) (number root : ℕ) (light : Bool) (own : ℕ) → is_above (MakeLink p number root light own) ≡ false
    → (number ≤ 65535) × (own ≤ 4294967295)
unfolding is_above
make_link_in_range p number root light own e =
    let one = or_false (is_above_ids number) (is_above_ids root || is_above_counts own) e in
    (ltb-false 65535 number one.0, ltb-false 4294967295 own (or_false (is_above_ids root) (is_above_counts own) one.1).1)

pub make_link_ready : (heap : HeapParts) (p : Bool) (number root : ℕ) (light : Bool) (own : ℕ) → AreReady heap (MakeLink p number root light own)
    → CanLink heap p number root own
make_link_ready heap p number root light own ready =
    let place : ℕ = place_in heap root in let found : Option Struct = value_at heap.links.structs number in let linked : Option ℕ = p_link_of heap.links.structs place in
    let range = make_link_in_range p number root light own (passed (is_above (MakeLink p number root light own)) Range _ ready.accepted).0 in
    let one = one_slot heap.setup.settings.roots root (is_above (MakeLink p number root light own)) _ ready.accepted in
    let two = passed (is_none (kind_at heap.setup.types (word_in heap) place)) NilRoot _ one.1 in
    let three = passed (not (is_absent (state_of found))) StructUsed _ two.1 in
    let four = passed (p && if_there place (is_some linked)) HasPLink _ three.1 in
    let full = full_place heap.setup.types (word_in heap) place two.0 in record {
      full = full;
      absent = absent_found found three.0;
      free = free_found p place linked four.0 full;
      few_numbers = range.0;
      few = range.1;
    }

-- a structure that was found is there
pub is_there : (found : Option Struct) (t : Struct) → found ≡ Some t → IsSome found
is_there found t is = ap is_some is

rises_alike : (t : Struct) → rises.CanRise t → links.CanRise t
rises_alike (Linked p light object own) can = can
rises_alike (Unlinked own) can = can
rises_alike Pending can = can

falls_alike : (t : Struct) → rises.CanFall t → links.CanFall t
falls_alike (Linked p light object own) can = can
falls_alike (Unlinked own) can = can
falls_alike Pending can = can

-- what the links ask before a count rises, and before it falls
pub can_rise : (heap : HeapParts) (number : ℕ) → AreReady heap (Inc number) → IsSomeAnd (value_at heap.links.structs number) links.CanRise
can_rise heap number ready =
    let can = inc_ready heap number ready in subst (λ (found : Option Struct). IsSomeAnd found links.CanRise) (sym can.1) (rises_alike can.0 can.2)

pub can_fall : (heap : HeapParts) (number : ℕ) → AreReady heap (DecCommand number) → IsSomeAnd (value_at heap.links.structs number) links.CanFall
can_fall heap number ready =
    let can = dec_ready heap number ready in subst (λ (found : Option Struct). IsSomeAnd found links.CanFall) (sym can.1) (falls_alike can.0 can.2)
