-- References are copied, after the items that are written were remembered.
use Rattle.std.proofs.Common.{◌≡◌, ◌≢◌, ℕ, ◌+◌, ◌<◌, ◌≤◌, true, IsTrue, [], refl, sym, ap, ◌∙◌, subst, arith}
use Rattle.std.proofs.lemmas.Bool.Decides.{nat_tests}
use Rattle.object_model.specs.Layout.{Layout}
use Rattle.object_model.specs.Sets.{is_in}
use Rattle.object_model.specs.ObjectWords.{layout_at}
use Rattle.remember_cards.specs.Remembered.{is_held}
use Rattle.text_model.specs.declared.command.Command.TheVariants.{CopyRefs}
use Rattle.store_model.specs.Store.{Store}
use Rattle.store_model.specs.PlainCommands.{copy_refs}
use Rattle.store_model.specs.Steps.{Does}
use Rattle.heap_parts.specs.Parts.{HeapParts, word_in, place_in}
use Rattle.heap_parts.specs.Places.{is_young, old_places}
use Rattle.heap_parts.specs.StandsFor.{PartsStandFor}
use Rattle.heap_parts.specs.Effects.{HasObjectIn, layout_in}
use Rattle.heap_parts.specs.Copies.{with_copy}
use Rattle.heap_parts.specs.Remembers.{CanRemember, RemembersItems}
use Rattle.command_laws.proofs.CopyRuns.{CanCopy, copy_stands}
use Rattle.frame_laws.proofs.StandLaws.{in_slot}
use Rattle.heap_core.specs.Commands.{AreReady, PartsDo}
use Rattle.heap_core.proofs.BarrierCalls.{can_remember, items_remembered, layout_remembered, old_in_slot}
use Rattle.heap_core.proofs.CopyReady.{HasCopy, copy_ready, copy_few}

-- a copy to an object of the nursery
can_copy : (heap : HeapParts) (root item from oi n : ℕ) → HasCopy heap root item from oi n → place_in heap root < 4294967296 → CanCopy heap root item from oi n
can_copy heap root item from oi n has low =
    let young : is_young (place_in heap root) ≡ true = grind (arith, nat_tests) in record {
      full = has.full;
      from_full = has.from_full;
      items = has.items;
      from_items = has.from_items;
      covered = λ old k l. absurd (let no : ⊥ = cc in no);
    }

pub copy_young_does : (heap : HeapParts) (root item from oi n : ℕ) → AreReady heap (CopyRefs root item from oi n) → place_in heap root < 4294967296
    → PartsDo heap (with_copy heap root item from oi n) (CopyRefs root item from oi n) []
unfolding Does
copy_young_does heap root item from oi n ready low =
    let can = can_copy heap root item from oi n (copy_ready heap root item from oi n ready) low in record {
      setup = refl;
      does = λ store s. (copy_refs store root item from oi n, (refl, refl), copy_stands heap store root item from oi n s can);
    }

-- what the code asks before it copies to a settled object
pub copy_can : (heap : HeapParts) (root item from oi n : ℕ) → AreReady heap (CopyRefs root item from oi n) → 4294967296 ≤ place_in heap root
    → CanRemember heap (place_in heap root) item n
copy_can heap root item from oi n ready high =
    let has = copy_ready heap root item from oi n ready in let s = ready.standing.stands in
    can_remember s (place_in heap root) item n (old_in_slot heap ready.standing.store root s has.full high) (copy_few heap root item from oi n ready)

-- a slot still leads to a whole object, whose parts lie where they lay
pub record SlotKeeps (heap new : HeapParts) (root : ℕ) : Type 0 where
  pub full : place_in new root ≢ 0
  pub object : HasObjectIn new root
  pub layout : layout_in new root ≡ layout_in heap root

-- so it does after items of a settled object were remembered
slot_after : (heap new : HeapParts) (store : Store) (p item n root : ℕ) (s : PartsStandFor heap store) → IsTrue (is_in p (old_places s.places))
    → RemembersItems heap new p item n → place_in heap root ≢ 0 → HasObjectIn heap root → SlotKeeps heap new root
slot_after heap new store p item n root s t r full object =
    let after = items_remembered s p item n t r in
    let same : place_in new root ≡ place_in heap root = ap (λ (h : HeapParts). place_in h root) r.only in
    let full_after : place_in new root ≢ 0 = λ e. full (sym same ∙ e) in record {
      full = full_after;
      object = record {
        slot = (let slot = object.slot in let many = s.slots.many in let many_after = after.slots.many in let setup = ap (λ (h : HeapParts). h.setup.settings.roots) r.only in omega (arith, slot, many, many_after, setup));
        object = after.words.whole (place_in new root) (in_slot new store root after full_after).there;
      };
      layout = ap (λ (q : ℕ). layout_at new.setup.types (word_in new) q) same ∙ layout_remembered s p item n t r (place_in heap root) (in_slot heap store root s full).there;
    }

-- both slots of a copy do
pub copy_slots_after : (heap new : HeapParts) (root item from oi n : ℕ) → AreReady heap (CopyRefs root item from oi n) → 4294967296 ≤ place_in heap root
    → RemembersItems heap new (place_in heap root) item n → SlotKeeps heap new root × SlotKeeps heap new from
copy_slots_after heap new root item from oi n ready high r =
    let has = copy_ready heap root item from oi n ready in let s = ready.standing.stands in let store = ready.standing.store in let p : ℕ = place_in heap root in
    let t = old_in_slot heap store root s has.full high in (
      slot_after heap new store p item n root s t r has.full has.object,
      slot_after heap new store p item n from s t r has.from_full has.from_object,
    )

pub copy_ready_after : (heap new : HeapParts) (root item from oi n : ℕ) → AreReady heap (CopyRefs root item from oi n) → 4294967296 ≤ place_in heap root
    → RemembersItems heap new (place_in heap root) item n → HasCopy new root item from oi n
copy_ready_after heap new root item from oi n ready high r =
    let has = copy_ready heap root item from oi n ready in
    let after = copy_slots_after heap new root item from oi n ready high r in
    let target = after.0 in
    let source = after.1 in record {
      full = target.full;
      from_full = source.full;
      object = target.object;
      from_object = source.object;
      items = subst (λ (k : Layout). item + n ≤ k.ref_count) (sym target.layout) has.items;
      from_items = subst (λ (k : Layout). oi + n ≤ k.ref_count) (sym source.layout) has.from_items;
    }

pub copy_old_does : (heap new : HeapParts) (root item from oi n : ℕ) → AreReady heap (CopyRefs root item from oi n) → 4294967296 ≤ place_in heap root
    → RemembersItems heap new (place_in heap root) item n
    → PartsDo heap (with_copy new root item from oi n) (CopyRefs root item from oi n) []
unfolding Does
copy_old_does heap new root item from oi n ready high r =
    let full = (copy_ready heap root item from oi n ready).full in
    let has = copy_ready_after heap new root item from oi n ready high r in
    let same : place_in new root ≡ place_in heap root = ap (λ (h : HeapParts). place_in h root) r.only in
    let can : CanCopy new root item from oi n = record {
      full = has.full;
      from_full = has.from_full;
      items = has.items;
      from_items = has.from_items;
      covered = λ old k l. subst (λ (q : ℕ). IsTrue (is_held new.remembered q (item + k))) (sym same) (r.covered (item + k) (omega arith) (omega (arith, l)));
    } in record {
      setup = ap (λ (h : HeapParts). h.setup) r.only;
      does = λ store s. (
        copy_refs store root item from oi n,
        (refl, refl),
        copy_stands new store root item from oi n (items_remembered s (place_in heap root) item n (old_in_slot heap store root s full high) r) can,
      );
    }
