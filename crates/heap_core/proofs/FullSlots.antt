-- What is known of the object in a slot where a command on it is not refused.
use Rattle.std.proofs.Common.{◌≡◌, ◌≢◌, ℕ, Bool, true, false, cond, Option, Some, None, refl, inl, inr}
use Rattle.std.specs.Prelude.{nat_le, is_none}
use Rattle.std.proofs.lemmas.Bool.Decides.{eqb_tells}
use Rattle.type_table.specs.declared.info.TypeInfo.{TypeInfo}
use Rattle.type_table.specs.Table.{Table}
use Rattle.text_model.specs.declared.command.Command.TheVariants.{Ident, Hash, Place}
use Rattle.text_model.specs.declared.item.Reason.{Reason}
use Rattle.text_model.specs.declared.item.Reason.TheVariants.{NoRoot, NilRoot, Range}
use Rattle.text_model.specs.Range.{is_above}
use Rattle.heap_parts.specs.Parts.{HeapParts, word_in, place_in}
use Rattle.heap_parts.specs.Told.{kind_at}
use Rattle.heap_parts.specs.Effects.{HasObjectIn}
use Rattle.heap_core.specs.Commands.{AreStanding, AreReady}
use Rattle.heap_core.proofs.Ready.{passed, one_slot, object_in_slot}

-- where a slot is not told to be empty, its place is not 0
full-place : (types : Table TypeInfo) (word : ℕ → ℕ) (place : ℕ) → is_none (kind_at types word place) ≡ false → place ≢ 0
full-place types word place e = elim (eqb_tells place 0) [
  | inl is ↦ absurd (let yes : is_none (kind_at types word place) ≡ true = rw is.0 refl in let no : ⊥ = cc in no)
  | inr is ↦ is.1
]

-- A slot is there, and leads to a whole object.
pub record FullSlot (heap : HeapParts) (root : ℕ) : Type 0 where
  pub full : place_in heap root ≢ 0
  pub object : HasObjectIn heap root

-- the slot that a command names is there and not empty, and the other checks are passed
pub full_slot : (heap : HeapParts) (root : ℕ) (above : Bool) (rest : Option Reason) → AreStanding heap
    → cond above (Some Range) (cond (nat_le heap.setup.settings.roots root) (Some NoRoot)
    (cond (is_none (kind_at heap.setup.types (word_in heap) (place_in heap root))) (Some NilRoot) rest)) ≡ None
    → FullSlot heap root × (rest ≡ None)
full_slot heap root above rest standing e =
    let nil : Bool = is_none (kind_at heap.setup.types (word_in heap) (place_in heap root)) in
    let one = one_slot heap.setup.settings.roots root above (cond nil (Some NilRoot) rest) e in
    let two = passed nil NilRoot rest one.1 in
    let full = full-place heap.setup.types (word_in heap) (place_in heap root) two.0 in
    (record { full = full; object = object_in_slot heap root standing one.0 full }, two.1)

pub place_ready : (heap : HeapParts) (root : ℕ) → AreReady heap (Place root) → FullSlot heap root
place_ready heap root ready = (full_slot heap root (is_above (Place root)) _ ready.standing ready.accepted).0

pub ident_ready : (heap : HeapParts) (root : ℕ) → AreReady heap (Ident root) → FullSlot heap root
ident_ready heap root ready = (full_slot heap root (is_above (Ident root)) _ ready.standing ready.accepted).0

pub hash_ready : (heap : HeapParts) (root : ℕ) → AreReady heap (Hash root) → FullSlot heap root
hash_ready heap root ready = (full_slot heap root (is_above (Hash root)) _ ready.standing ready.accepted).0
