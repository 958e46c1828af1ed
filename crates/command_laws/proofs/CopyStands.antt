-- References are copied from one object to another, one after the other.
use Rattle.std.proofs.Common.{◌≡◌, ◌≢◌, ℕ, ◌<◌, IsTrue, Option, sym, ap, ◌∙◌, subst}
use Rattle.std.specs.Prelude.{option_and_then}
use Rattle.object_view.proofs.FoundLaws.{ref-pointer}
use Rattle.object_model.specs.Object.{Object, object_at}
use Rattle.store_model.specs.Store.{Store}
use Rattle.object_model.specs.Sets.{is_in}
use Rattle.store_model.specs.Slots.{object_in}
use Rattle.store_model.specs.Steps.{ref_at, put_ref}
use Rattle.store_model.specs.Roots.{referents_in}
use Rattle.remember_cards.specs.Remembered.{is_held_of}
use Rattle.parts_model.specs.Parts.{HeapParts, word_in, place_in}
use Rattle.parts_model.specs.StandsFor.{PartsStandFor}
use Rattle.parts_model.specs.Effects.{with_word_at, ref_place, layout_in}
use Rattle.frame_laws.proofs.StandLaws.{in_slot, link_stands}
use Rattle.store_model.proofs.RootLaws.{held_root, can_root, can_refer}
use Rattle.frame_laws.proofs.RootStands.{ref_is}
use Rattle.store_model.proofs.RootChanges.{found-ref}

-- One reference of the object in a slot becomes one of that in another slot. The item is remembered where the object is settled.
pub copy_step_stands : (heap : HeapParts) (store : Store) (root item from from_item : ℕ) (s : PartsStandFor heap store) → place_in heap root ≢ 0 → place_in heap from ≢ 0
    → item < (layout_in heap root).ref_count → from_item < (layout_in heap from).ref_count
    → (IsTrue (is_in (s.name (place_in heap root)) store.settled) → IsTrue (is_held_of heap.remembered s.name (s.name (place_in heap root)) item))
    → PartsStandFor (with_word_at heap (ref_place heap root item) (word_in heap (ref_place heap from from_item))) (put_ref store root item (ref_at store from from_item))
copy_step_stands heap store root item from from_item s full from_full l m covered =
    let place : ℕ = word_in heap (ref_place heap from from_item) in
    let here = in_slot heap store from s from_full in
    let x : ℕ = s.name (place_in heap from) in
    let is = ref_is heap store from from_item s from_full m in
    let same : object_in store.slots store.kept from ≡ object_at store.kept x = ap (option_and_then (object_at store.kept)) here.named in
    subst (λ (b : Option ℕ). PartsStandFor (with_word_at heap (ref_place heap root item) place) (put_ref store root item b)) (sym is)
    (link_stands heap store root item place s full l (ref-pointer (place_in heap from) from_item s.words.objects here.there m)
    (λ y e. can_refer s.sound x y (can_root s.sound x (held_root store from x here.named))
    (subst (λ (o : Option Object). IsTrue (is_in y (referents_in o))) same (found-ref (object_in store.slots store.kept from) from_item y (is ∙ e))))
    covered)
