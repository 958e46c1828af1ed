-- What is known of the parts of a heap where a command on weak objects is not refused.
use Rattle.std.proofs.Common.{◌≡◌, ◌≢◌, ℕ, ◌<◌, false, ◌++◌, length, Option, Some, None, refl, sym, ap, ◌∙◌, subst, arith}
use Rattle.std.specs.Prelude.{not, nat_le}
use Rattle.std.proofs.lemmas.Bool.{leb-false}
use Rattle.type_table.specs.declared.info.Shape.{Shape}
use Rattle.type_table.specs.declared.info.Shape.TheVariants.{Fixed, IntArray, RefArray, Weak}
use Rattle.type_table.specs.declared.info.TypeInfo.{TypeInfo}
use Rattle.type_table.specs.Table.{value_at}
use Rattle.text_model.specs.declared.command.Command.TheVariants.{NewWeak, Deref}
use Rattle.text_model.specs.declared.item.Reason.TheVariants.{NoRoot, WrongShape}
use Rattle.text_model.specs.Range.{is_above}
use Rattle.object_model.specs.declared.kind.Kind.{Kind}
use Rattle.object_model.specs.Shapes.{is_weak_shape}
use Rattle.object_model.specs.ObjectWords.{info_at}
use Rattle.store_model.specs.Checks.{first_reason, found_checks, born_checks}
use Rattle.store_model.specs.StructChecks.{weak_checks}
use Rattle.heap_parts.specs.Parts.{HeapParts, word_in, place_in}
use Rattle.heap_parts.specs.Told.{kind_at}
use Rattle.heap_parts.specs.Effects.{HasObjectIn}
use Rattle.heap_core.specs.Commands.{AreStanding, AreReady}
use Rattle.heap_core.specs.Bearing.{IsAsked}
use Rattle.heap_core.proofs.Ready.{passed, one_slot, kind-some, object_in_slot, slot_in}

-- The object in a slot can be used, and is weak.
pub record HasTarget (heap : HeapParts) (root : ℕ) : Type 0 where
  pub full : place_in heap root ≢ 0
  pub object : HasObjectIn heap root
  pub weak : (info_at heap.setup.types (word_in heap) (place_in heap root)).shape ≡ Weak

pub weak-shape : (shape : Shape) → not (is_weak_shape shape) ≡ false → shape ≡ Weak
weak-shape (Fixed ints refs) e = absurd (let no : ⊥ = cc in no)
weak-shape IntArray e = absurd (let no : ⊥ = cc in no)
weak-shape RefArray e = absurd (let no : ⊥ = cc in no)
weak-shape Weak e = refl

-- what is used as a weak object without refusal is one
weak_passed : (kind : Option Kind) → first_reason (weak_checks kind) ≡ None → (k : Kind) × (kind ≡ Some k) × (k.shape ≡ Weak)
weak_passed None e = absurd (let no : ⊥ = cc in no)
weak_passed (Some k) e = (k, refl, weak-shape k.shape (passed (not (is_weak_shape k.shape)) WrongShape _ e).0)

pub deref_ready : (heap : HeapParts) (to root : ℕ) → AreReady heap (Deref to root) → (to < length heap.slots) × HasTarget heap root
deref_ready heap to root ready =
    let one = one_slot heap.setup.settings.roots to (is_above (Deref to root)) _ ready.accepted in
    let two = passed (nat_le heap.setup.settings.roots root) NoRoot _ one.1 in
    let found = weak_passed (kind_at heap.setup.types (word_in heap) (place_in heap root)) two.1 in
    let is = kind-some heap.setup.types (word_in heap) (place_in heap root) found.0 found.1 in (
      slot_in heap to ready.standing one.0,
      record {
        full = is.0;
        object = object_in_slot heap root ready.standing (leb-false heap.setup.settings.roots root two.0) is.0;
        weak = sym (ap (λ (k : Kind). k.shape) is.1) ∙ found.2;
      },
    )

-- A weak object of the type may be asked for.
pub record AsksWeak (heap : HeapParts) (root type_id : ℕ) (info : TypeInfo) : Type 0 where
  pub weak : info.shape ≡ Weak
  pub asked : IsAsked heap root type_id info 0

weak_birth_passed : (held : Option Kind) (heap : HeapParts) (root type_id : ℕ) (info : TypeInfo) → AreStanding heap → value_at heap.setup.types type_id ≡ Some info → root < heap.setup.settings.roots
    → first_reason (found_checks held ++ born_checks (Some info) is_weak_shape) ≡ None → AsksWeak heap root type_id info
weak_birth_passed None heap root type_id info standing found l e = absurd (let no : ⊥ = cc in no)
weak_birth_passed (Some k) heap root type_id info standing found l e = record {
  weak = weak-shape info.shape (passed (not (is_weak_shape info.shape)) WrongShape None e).0;
  asked = record { standing = standing; known = found; root_in = l; items_few = omega arith };
}

pub new_weak_ready : (heap : HeapParts) (root type_id target : ℕ) (info : TypeInfo) → AreReady heap (NewWeak root type_id target) → value_at heap.setup.types type_id ≡ Some info
    → AsksWeak heap root type_id info
new_weak_ready heap root type_id target info ready found =
    let held : Option Kind = kind_at heap.setup.types (word_in heap) (place_in heap target) in
    let one = one_slot heap.setup.settings.roots root (is_above (NewWeak root type_id target)) _ ready.accepted in
    let two = passed (nat_le heap.setup.settings.roots target) NoRoot _ one.1 in
    weak_birth_passed held heap root type_id info ready.standing found one.0
    (subst (λ (known : Option TypeInfo). first_reason (found_checks held ++ born_checks known is_weak_shape) ≡ None) found two.1)

no_type_passed : (held : Option Kind) → first_reason (found_checks held ++ born_checks None is_weak_shape) ≡ None → ⊥
no_type_passed None e = let no : ⊥ = cc in no
no_type_passed (Some k) e = let no : ⊥ = cc in no

-- a type that is not there is refused
pub no_type : (heap : HeapParts) (root type_id target : ℕ) → AreReady heap (NewWeak root type_id target) → value_at heap.setup.types type_id ≡ None → ⊥
no_type heap root type_id target ready none =
    let held : Option Kind = kind_at heap.setup.types (word_in heap) (place_in heap target) in
    let one = one_slot heap.setup.settings.roots root (is_above (NewWeak root type_id target)) _ ready.accepted in
    let two = passed (nat_le heap.setup.settings.roots target) NoRoot _ one.1 in
    no_type_passed held (subst (λ (known : Option TypeInfo). first_reason (found_checks held ++ born_checks known is_weak_shape) ≡ None) none two.1)
