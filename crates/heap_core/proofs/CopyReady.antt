-- What is known of the parts of a heap where a copy of references is not refused.
use Rattle.std.proofs.Common.{◌≡◌, ◌≢◌, ℕ, ◌+◌, ◌≤◌, false, Option, Some, None, refl, subst, arith}
use Rattle.std.specs.Prelude.{not, nat_le, nat_lt, ◌&&◌, ◌||◌}
use Rattle.std.proofs.lemmas.Bool.{leb-false, ltb-false}
use Rattle.text_model.specs.declared.command.Command.TheVariants.{CopyRefs}
use Rattle.text_model.specs.declared.item.Reason.TheVariants.{NoRoot, WrongShape, NoItem, Range}
use Rattle.text_model.specs.Range.{is_above, is_above_ids, is_above_items}
use Rattle.object_model.specs.declared.kind.Kind.{Kind}
use Rattle.object_model.specs.Shapes.{holds_refs}
use Rattle.store_model.specs.Checks.{first_reason, copy_checks}
use Rattle.heap_parts.specs.Parts.{HeapParts, word_in, place_in}
use Rattle.heap_parts.specs.Told.{kind_at}
use Rattle.heap_parts.specs.Effects.{HasObjectIn, layout_in}
use Rattle.heap_core.specs.Commands.{AreReady}
use Rattle.heap_core.proofs.Ready.{passed, kind-some, object_in_slot, one_slot, or_false}

-- Both objects can be used, and have so many references.
pub record HasCopy (heap : HeapParts) (root item from oi n : ℕ) : Type 0 where
  pub full : place_in heap root ≢ 0
  pub from_full : place_in heap from ≢ 0
  pub object : HasObjectIn heap root
  pub from_object : HasObjectIn heap from
  pub items : item + n ≤ (layout_in heap root).ref_count
  pub from_items : oi + n ≤ (layout_in heap from).ref_count

-- references that are copied without refusal are there
copy_passed : (kind other : Option Kind) (end other_end : ℕ) → first_reason (copy_checks kind other end other_end) ≡ None
    → (k : Kind) × (l : Kind) × (kind ≡ Some k) × (other ≡ Some l) × (end ≤ k.refs) × (other_end ≤ l.refs)
copy_passed None other end other_end e = absurd (let no : ⊥ = cc in no)
copy_passed (Some k) None end other_end e = absurd (let no : ⊥ = cc in no)
copy_passed (Some k) (Some l) end other_end e =
    let shaped = passed (not (holds_refs k.shape && holds_refs l.shape)) WrongShape _ e in
    let there = or_false (nat_lt k.refs end) (nat_lt l.refs other_end) (passed (nat_lt k.refs end || nat_lt l.refs other_end) NoItem _ shaped.1).0 in
    (k, l, refl, refl, ltb-false k.refs end there.0, ltb-false l.refs other_end there.1)

pub copy_ready : (heap : HeapParts) (root item from oi n : ℕ) → AreReady heap (CopyRefs root item from oi n) → HasCopy heap root item from oi n
copy_ready heap root item from oi n ready =
    let one = one_slot heap.setup.settings.roots root (is_above (CopyRefs root item from oi n)) _ ready.accepted in
    let two = passed (nat_le heap.setup.settings.roots from) NoRoot _ one.1 in
    let types = heap.setup.types in
    let found = copy_passed (kind_at types (word_in heap) (place_in heap root)) (kind_at types (word_in heap) (place_in heap from)) (item + n) (oi + n) two.1 in
    let is = kind-some types (word_in heap) (place_in heap root) found.0 found.2 in
    let other = kind-some types (word_in heap) (place_in heap from) found.1 found.3 in record {
      full = is.0;
      from_full = other.0;
      object = object_in_slot heap root ready.standing one.0 is.0;
      from_object = object_in_slot heap from ready.standing (leb-false heap.setup.settings.roots from two.0) other.0;
      items = subst (λ (k : Kind). item + n ≤ k.refs) is.1 found.4;
      from_items = subst (λ (k : Kind). oi + n ≤ k.refs) other.1 found.5;
    }

copy_in_range : (root item from oi n : ℕ) → is_above (CopyRefs root item from oi n) ≡ false → item + n ≤ 33554432
unfolding is_above
copy_in_range root item from oi n e =
    let a = or_false (is_above_items item) _ (or_false (is_above_ids root) _ e).1 in
    let b = or_false (is_above_items oi) (is_above_items n) (or_false (is_above_ids from) _ a.1).1 in
    omega (arith, ltb-false 16777216 item a.0, ltb-false 16777216 n b.1)

-- the items of a copy are not too many
pub copy_few : (heap : HeapParts) (root item from oi n : ℕ) → AreReady heap (CopyRefs root item from oi n) → item + n ≤ 33554432
copy_few heap root item from oi n ready =
    copy_in_range root item from oi n (passed (is_above (CopyRefs root item from oi n)) Range _ ready.accepted).0
