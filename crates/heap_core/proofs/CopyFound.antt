-- What a copy does with the two objects that were found before.
use Rattle.std.proofs.Common.{◌≡◌, ◌≢◌, ℕ, ◌+◌, ◌<◌, ◌≤◌, Option, Some, None, [], sym, ap, ◌∙◌, subst}
use Rattle.object_model.specs.Layout.{Layout}
use Rattle.object_model.specs.ObjectWords.{layout_at}
use Rattle.object_view.specs.Views.{HasObject, view_of}
use Rattle.text_model.specs.declared.command.Command.TheVariants.{CopyRefs}
use Rattle.heap_parts.specs.Parts.{HeapParts, word_in, place_in}
use Rattle.heap_parts.specs.Effects.{layout_in}
use Rattle.heap_parts.specs.Copies.{with_copied, with_copy}
use Rattle.heap_parts.specs.Remembers.{RemembersItems}
use Rattle.heap_core.specs.declared.found.Found.{Found}
use Rattle.heap_core.specs.Found.{found_from, found_of, IsFound}
use Rattle.heap_core.specs.Commands.{AreReady, PartsDo}
use Rattle.heap_core.proofs.FoundCalls.{Sees, sees, finds}
use Rattle.heap_core.proofs.CopyReady.{copy_ready}
use Rattle.heap_core.proofs.CopyCalls.{SlotKeeps, copy_slots_after, copy_young_does, copy_old_does}

module _ (heap : HeapParts) (root item from oi n : ℕ) (ready : AreReady heap (CopyRefs root item from oi n)) where
  pub target_finds : (found : Option Found) → found ≡ found_of heap root → found ≢ None
  target_finds found is = finds heap root found is (copy_ready heap root item from oi n ready).full

  pub source_finds : (found : Option Found) → found ≡ found_of heap from → found ≢ None
  source_finds found is = finds heap from found is (copy_ready heap root item from oi n ready).from_full

  pub target_sees : (found : Option Found) (seen : Found) → found ≡ found_of heap root → found ≡ Some seen → Sees heap root seen × (item + n ≤ seen.view.ref_count)
  target_sees found seen is some =
      let has = copy_ready heap root item from oi n ready in
      let s = sees heap root found seen is some has.full has.object.object in
      (s, subst (λ (f : Found). item + n ≤ f.view.ref_count) (sym s.is) has.items)

  pub source_sees : (found : Option Found) (seen : Found) → found ≡ found_of heap from → found ≡ Some seen → Sees heap from seen × (oi + n ≤ seen.view.ref_count)
  source_sees found seen is some =
      let has = copy_ready heap root item from oi n ready in
      let s = sees heap from found seen is some has.from_full has.from_object.object in
      (s, subst (λ (f : Found). oi + n ≤ f.view.ref_count) (sym s.is) has.from_items)

-- What was found of the object in a slot is so still where the slot and its object stay, and its references lie where they lay.
pub record StillSees (new : HeapParts) (root : ℕ) (seen : Found) : Type 0 where
  pub found : IsFound new.memory new.setup.types seen
  pub start : seen.view.ref_start ≡ (layout_in new root).ref_start

pub still_sees : (heap new : HeapParts) (root : ℕ) (seen : Found) → Sees heap root seen → SlotKeeps heap new root → place_in new root ≡ place_in heap root
    → StillSees new root seen
still_sees heap new root seen s keeps same =
    let object : HasObject new.memory new.setup.types (place_in heap root) =
    subst (λ (p : ℕ). HasObject new.memory new.setup.types p) same keeps.object.object in
    let layout : layout_at new.setup.types (word_in new) (place_in heap root) ≡ layout_in heap root =
    ap (λ (p : ℕ). layout_at new.setup.types (word_in new) p) (sym same) ∙ keeps.layout in
    let here : Found = found_from heap.setup.types (word_in heap) (place_in heap root) in
    let found : IsFound new.memory new.setup.types here =
    record { object = object; lies = ap (λ (l : Layout). view_of here.view.type_id here.view.birth l) (sym layout) } in record {
      found = subst (λ (f : Found). IsFound new.memory new.setup.types f) (sym s.is) found;
      start = ap (λ (f : Found). f.view.ref_start) s.is ∙ ap (λ (l : Layout). l.ref_start) (sym keeps.layout);
    }

-- where both are seen, the copy is that of the objects in the slots
copied-is : (heap : HeapParts) (root item from oi n to of : ℕ) → to ≡ (layout_in heap root).ref_start → of ≡ (layout_in heap from).ref_start
    → with_copied heap (to + item) (of + oi) n ≡ with_copy heap root item from oi n
copied-is heap root item from oi n to of there here =
    ap (λ (k : ℕ). with_copied heap (k + item) (of + oi) n) there ∙ ap (λ (k : ℕ). with_copied heap ((layout_in heap root).ref_start + item) (k + oi) n) here

-- both are seen after items of the settled object were remembered
pub copy_still : (heap new : HeapParts) (root item from oi n : ℕ) (to of : Found) → AreReady heap (CopyRefs root item from oi n) → Sees heap root to → Sees heap from of
    → 4294967296 ≤ place_in heap root → RemembersItems heap new (place_in heap root) item n → StillSees new root to × StillSees new from of
copy_still heap new root item from oi n to of ready t s high r =
    let keeps = copy_slots_after heap new root item from oi n ready high r in (
      still_sees heap new root to t keeps.0 (ap (λ (h : HeapParts). place_in h root) r.only),
      still_sees heap new from of s keeps.1 (ap (λ (h : HeapParts). place_in h from) r.only),
    )

-- a copy to an object of the nursery
pub young_copied : (heap new : HeapParts) (root item from oi n : ℕ) (to of : Found) → AreReady heap (CopyRefs root item from oi n) → Sees heap root to → Sees heap from of
    → place_in heap root < 4294967296 → new ≡ with_copied heap (to.view.ref_start + item) (of.view.ref_start + oi) n → PartsDo heap new (CopyRefs root item from oi n) []
young_copied heap new root item from oi n to of ready t s low copied =
    subst (λ (h : HeapParts). PartsDo heap h (CopyRefs root item from oi n) [])
    (sym (copied ∙ copied-is heap root item from oi n to.view.ref_start of.view.ref_start (ap (λ (f : Found). f.view.ref_start) t.is) (ap (λ (f : Found). f.view.ref_start) s.is)))
    (copy_young_does heap root item from oi n ready low)

-- and to a settled one, whose items were remembered
pub old_copied : (heap mid new : HeapParts) (root item from oi n : ℕ) (to of : Found) → AreReady heap (CopyRefs root item from oi n) → Sees heap root to → Sees heap from of
    → 4294967296 ≤ place_in heap root → RemembersItems heap mid (place_in heap root) item n
    → new ≡ with_copied mid (to.view.ref_start + item) (of.view.ref_start + oi) n → PartsDo heap new (CopyRefs root item from oi n) []
old_copied heap mid new root item from oi n to of ready t s high r copied =
    let still = copy_still heap mid root item from oi n to of ready t s high r in
    subst (λ (h : HeapParts). PartsDo heap h (CopyRefs root item from oi n) [])
    (sym (copied ∙ copied-is mid root item from oi n to.view.ref_start of.view.ref_start still.0.start still.1.start))
    (copy_old_does heap mid root item from oi n ready high r)
