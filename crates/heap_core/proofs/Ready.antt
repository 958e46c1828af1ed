-- What is known of the parts of a heap where a command is not refused.
use Rattle.std.proofs.Common.{◌≡◌, ◌≢◌, ℕ, ◌<◌, Bool, true, false, cond, length, Option, Some, None, refl, subst, inl, inr, arith}
use Rattle.std.specs.Prelude.{not, nat_le, ◌≤◌, ◌||◌}
use Rattle.std.proofs.lemmas.Bool.{leb-false, ltb-false}
use Rattle.std.proofs.lemmas.Bool.Decides.{eqb_tells}
use Rattle.type_table.specs.declared.info.TypeInfo.{TypeInfo}
use Rattle.type_table.specs.Table.{Table}
use Rattle.text_model.specs.declared.command.Command.TheVariants.{Put, Get, Link, Load, MoveRoot, DropRoot}
use Rattle.text_model.specs.declared.item.Reason.{Reason}
use Rattle.text_model.specs.declared.item.Reason.TheVariants.{NoRoot, WrongShape, NoItem, Range}
use Rattle.text_model.specs.Range.{is_above, is_above_ids, is_above_items}
use Rattle.object_model.specs.declared.kind.Kind.{Kind}
use Rattle.object_model.specs.Shapes.{holds_ints, holds_refs}
use Rattle.store_model.specs.Checks.{first_reason, int_checks, ref_checks}
use Rattle.heap_parts.specs.Parts.{HeapParts, word_in, place_in}
use Rattle.heap_parts.specs.Told.{kind_from, kind_at}
use Rattle.heap_parts.specs.Effects.{HasObjectIn, layout_in}
use Rattle.frame_laws.proofs.StandLaws.{in_slot}
use Rattle.heap_core.specs.Commands.{AreStanding, AreReady}

-- a check that is not the first to hold does not hold
pub passed : (b : Bool) (reason : Reason) (rest : Option Reason) → cond b (Some reason) rest ≡ None → (b ≡ false) × (rest ≡ None)
passed true reason rest e = cc
passed false reason rest e = (refl, e)

-- a whole number that is used without refusal is there
int_passed : (kind : Option Kind) (item : ℕ) → first_reason (int_checks kind item) ≡ None → (k : Kind) × (kind ≡ Some k) × (item < k.ints)
int_passed None item e = absurd (let no : ⊥ = cc in no)
int_passed (Some k) item e =
    let shaped = passed (not (holds_ints k.shape)) WrongShape _ e in
    (k, refl, leb-false k.ints item (passed (nat_le k.ints item) NoItem _ shaped.1).0)

-- a reference that is used without refusal is there
ref_passed : (kind : Option Kind) (item : ℕ) → first_reason (ref_checks kind item) ≡ None → (k : Kind) × (kind ≡ Some k) × (item < k.refs)
ref_passed None item e = absurd (let no : ⊥ = cc in no)
ref_passed (Some k) item e =
    let shaped = passed (not (holds_refs k.shape)) WrongShape _ e in
    (k, refl, leb-false k.refs item (passed (nat_le k.refs item) NoItem _ shaped.1).0)

-- where there is an object, its place is not 0, and its kind is the one read there
pub kind-some : (types : Table TypeInfo) (word : ℕ → ℕ) (place : ℕ) (k : Kind) → kind_at types word place ≡ Some k
    → (place ≢ 0) × (k ≡ kind_from types word place)
kind-some types word place k e = elim (eqb_tells place 0) [
  | inl is ↦ absurd (let none : kind_at types word place ≡ None = rw is.0 refl in let no : ⊥ = cc in no)
  | inr is ↦ (is.1, let some : kind_at types word place ≡ Some (kind_from types word place) = rw is.0 refl in let same : k ≡ kind_from types word place = cc in same)
]

-- The object in a slot can be used, and has such a whole number.
pub record HasInt (heap : HeapParts) (root item : ℕ) : Type 0 where
  pub full : place_in heap root ≢ 0
  pub object : HasObjectIn heap root
  pub item_in : item < (layout_in heap root).int_count

-- The object in a slot can be used, and has such a reference.
pub record HasRef (heap : HeapParts) (root item : ℕ) : Type 0 where
  pub full : place_in heap root ≢ 0
  pub object : HasObjectIn heap root
  pub item_in : item < (layout_in heap root).ref_count

-- a slot that is there and not empty leads to a whole object
pub object_in_slot : (heap : HeapParts) (root : ℕ) → AreStanding heap → root < heap.setup.settings.roots → place_in heap root ≢ 0 → HasObjectIn heap root
object_in_slot heap root standing l full =
    let s = standing.stands in record {
      slot = omega (arith, l, s.slots.many);
      object = s.words.whole (place_in heap root) (in_slot heap standing.store root s full).there;
    }

pub slot_in : (heap : HeapParts) (root : ℕ) → AreStanding heap → root < heap.setup.settings.roots → root < length heap.slots
slot_in heap root standing l = omega (arith, l, standing.stands.slots.many)

has_int : (heap : HeapParts) (root item : ℕ) → AreStanding heap → root < heap.setup.settings.roots
    → first_reason (int_checks (kind_at heap.setup.types (word_in heap) (place_in heap root)) item) ≡ None → HasInt heap root item
has_int heap root item standing l e =
    let found = int_passed (kind_at heap.setup.types (word_in heap) (place_in heap root)) item e in
    let is = kind-some heap.setup.types (word_in heap) (place_in heap root) found.0 found.1 in record {
      full = is.0;
      object = object_in_slot heap root standing l is.0;
      item_in = subst (λ (k : Kind). item < k.ints) is.1 found.2;
    }

has_ref : (heap : HeapParts) (root item : ℕ) → AreStanding heap → root < heap.setup.settings.roots
    → first_reason (ref_checks (kind_at heap.setup.types (word_in heap) (place_in heap root)) item) ≡ None → HasRef heap root item
has_ref heap root item standing l e =
    let found = ref_passed (kind_at heap.setup.types (word_in heap) (place_in heap root)) item e in
    let is = kind-some heap.setup.types (word_in heap) (place_in heap root) found.0 found.1 in record {
      full = is.0;
      object = object_in_slot heap root standing l is.0;
      item_in = subst (λ (k : Kind). item < k.refs) is.1 found.2;
    }

-- one slot that a command names is there, and the other checks are passed
pub one_slot : (roots root : ℕ) (above : Bool) (rest : Option Reason)
    → cond above (Some Range) (cond (nat_le roots root) (Some NoRoot) rest) ≡ None → (root < roots) × (rest ≡ None)
one_slot roots root above rest e =
    let one = passed (nat_le roots root) NoRoot rest (passed above Range (cond (nat_le roots root) (Some NoRoot) rest) e).1 in
    (leb-false roots root one.0, one.1)

pub put_ready : (heap : HeapParts) (root item value : ℕ) → AreReady heap (Put root item value) → HasInt heap root item
put_ready heap root item value ready =
    let one = one_slot heap.setup.settings.roots root (is_above (Put root item value)) _ ready.accepted in
    has_int heap root item ready.standing one.0 one.1

pub get_ready : (heap : HeapParts) (root item : ℕ) → AreReady heap (Get root item) → HasInt heap root item
get_ready heap root item ready =
    let one = one_slot heap.setup.settings.roots root (is_above (Get root item)) _ ready.accepted in
    has_int heap root item ready.standing one.0 one.1

pub link_ready : (heap : HeapParts) (root item from : ℕ) → AreReady heap (Link root item from) → HasRef heap root item
link_ready heap root item from ready =
    let one = one_slot heap.setup.settings.roots root (is_above (Link root item from)) _ ready.accepted in
    let two = passed (nat_le heap.setup.settings.roots from) NoRoot _ one.1 in
    has_ref heap root item ready.standing one.0 two.1

pub load_ready : (heap : HeapParts) (to root item : ℕ) → AreReady heap (Load to root item) → (to < length heap.slots) × HasRef heap root item
load_ready heap to root item ready =
    let one = one_slot heap.setup.settings.roots to (is_above (Load to root item)) _ ready.accepted in
    let two = passed (nat_le heap.setup.settings.roots root) NoRoot _ one.1 in
    (slot_in heap to ready.standing one.0, has_ref heap root item ready.standing (leb-false heap.setup.settings.roots root two.0) two.1)

pub move_ready : (heap : HeapParts) (to from : ℕ) → AreReady heap (MoveRoot to from) → to < length heap.slots
move_ready heap to from ready =
    slot_in heap to ready.standing (one_slot heap.setup.settings.roots to (is_above (MoveRoot to from)) _ ready.accepted).0

pub drop_ready : (heap : HeapParts) (root : ℕ) → AreReady heap (DropRoot root) → root < length heap.slots
drop_ready heap root ready =
    slot_in heap root ready.standing (one_slot heap.setup.settings.roots root (is_above (DropRoot root)) _ ready.accepted).0

pub or_false : (a b : Bool) → (a || b) ≡ false → (a ≡ false) × (b ≡ false)
or_false true b e = absurd (let no : ⊥ = cc in no)
or_false false b e = (refl, e)

link_in_range : (root item from : ℕ) → is_above (Link root item from) ≡ false → item ≤ 16777216
unfolding is_above
link_in_range root item from e =
    ltb-false 16777216 item (or_false (is_above_items item) (is_above_ids from) (or_false (is_above_ids root) _ e).1).0

-- the item of a link is not too great
pub link_few : (heap : HeapParts) (root item from : ℕ) → AreReady heap (Link root item from) → item ≤ 16777216
link_few heap root item from ready = link_in_range root item from (passed (is_above (Link root item from)) Range _ ready.accepted).0
