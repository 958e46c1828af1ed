-- What the parts of a heap stand for where only what leads to objects changes: slots, lists of finalizers, structures.
use Rattle.std.proofs.Common.{◌≡◌, ◌≢◌, ℕ, zero, suc, ◌<◌, ◌⊎◌, IsTrue, List, [], ◌∷◌, Option, Some, None, refl, sym, ap, ◌∙◌, subst, inl, inr}
use Rattle.std.specs.Prelude.{slice_set, option_and_then}
use Rattle.std.proofs.lemmas.List.{length-set, map-set}
use Rattle.object_model.proofs.Members.{is_in-head, is_in-tail, is_in-cases}
use Rattle.object_view.proofs.FoundLaws.{found-at, ref-from, ref-pointer}
use Rattle.object_model.specs.Object.{Object, object_at}
use Rattle.store_model.specs.Store.{Store}
use Rattle.object_model.specs.Sets.{is_in}
use Rattle.store_model.specs.Slots.{held, object_in, put_in_slot}
use Rattle.object_model.specs.Fields.{refs_of, ref_in}
use Rattle.store_model.specs.Steps.{ref_at}
use Rattle.store_model.specs.Roots.{referents_in}
use Rattle.store_model.specs.Sound.{IsSound}
use Rattle.object_model.specs.ObjectWords.{renamed, object_from}
use Rattle.object_model.specs.Holds.{IsPointer}
use Rattle.parts_model.specs.Parts.{HeapParts, word_in, place_in}
use Rattle.parts_model.specs.Places.{young_places}
use Rattle.parts_model.specs.Lists.{HoldsSlots, HoldsEntries, HoldsLinks}
use Rattle.parts_model.specs.StandsFor.{PartsStandFor, HoldsFinalizers}
use Rattle.parts_model.specs.Effects.{with_slot, ref_place, layout_in}
use Rattle.frame_laws.proofs.SlotLaws.{held-named, slot-pointer}
use Rattle.frame_laws.proofs.StandLaws.{in_slot}
use Rattle.store_model.proofs.RootLaws.{held_root, Relieves, relieves_none, can_root, can_refer, RootChange, sound_rerooted, order_relieved}
use Rattle.store_model.proofs.SoundLaws.{CanBeRoot}
use Rattle.store_model.proofs.RootChanges.{slot_change, found-ref}

-- the heap with what leads to objects in another one
abbrev pub with_lists : HeapParts → HeapParts → HeapParts
with_lists heap new = record heap {
  slots = new.slots;
  registered = new.registered;
  queues = new.queues;
  finals = new.finals;
  links = new.links;
}

-- Only what leads to objects changes, in the heap and in the store.
pub rooted_stands : {heap new : HeapParts} {store after : Store} (s : PartsStandFor heap store) → new ≡ with_lists heap new
    → RootChange heap.setup.settings store after → after.pinned ≡ store.pinned
    → HoldsSlots new.slots s.places s.name heap.setup.settings.roots after.slots
    → HoldsFinalizers new.finals heap.setup.settings.queues new.registered heap.chosen new.queues s.places s.name after.registered store.chosen after.queues
    → HoldsLinks new.links s.places s.name after.structs after.dead
    → PartsStandFor new after
rooted_stands {heap = heap} {new = new} {store = store} {after = after} s only change pinned slots finalizers links =
    subst (λ (h : HeapParts). PartsStandFor h after) (sym only)
    (subst (λ (t : Store). PartsStandFor (with_lists heap new) t) (sym change.only) (record {
      places = s.places;
      name = s.name;
      husks = s.husks;
      waiting = s.waiting;
      words = s.words;
      headers = s.headers;
      young_flags = s.young_flags;
      visited = s.visited;
      remembered = s.remembered;
      births = s.births;
      slots = slots;
      pins = subst (λ (ps : List (ℕ × ℕ)). HoldsEntries heap.pins (young_places s.places) s.name ps) (sym pinned) s.pins;
      finalizers = finalizers;
      links = links;
      homes = s.homes;
      gray = s.gray;
      gray_phase = s.gray_phase;
      sums = s.sums;
      husk_list = s.husk_list;
      counts = s.counts;
      ungapped = s.ungapped;
      units = s.units;
      made = record { ranges = s.made.ranges; words = s.made.words; pins = s.made.pins; card = s.made.card; arena = s.made.arena; small = s.made.small; page = s.made.page };
      order = order_relieved change.relieves.unreached_less s.order;
      sound = subst (IsSound heap.setup.settings) change.only (sound_rerooted change s.sound);
    }))

is_in-set : (x y i : ℕ) (xs : List ℕ) → IsTrue (is_in x (slice_set xs i y)) → (x ≡ y) ⊎ IsTrue (is_in x xs)
is_in-set x y i [] t = inr t
is_in-set x y zero (z ∷ xs) t = elim (is_in-cases x y xs t) [ inl e ↦ inl e | inr u ↦ inr (is_in-tail x z xs u) ]
is_in-set x y (suc i) (z ∷ xs) t = elim (is_in-cases x z (slice_set xs i y) t) [
  | inl e ↦ inr (let P : ℕ → Type 0 = λ k. IsTrue (is_in k (z ∷ xs)) in subst P (sym e) (is_in-head z xs))
  | inr u ↦ elim (is_in-set x y i xs u) [ inl e ↦ inl e | inr v ↦ inr (is_in-tail x z xs v) ]
]

-- a slot gets a place that references may have
pub slots-set : {slots places : List ℕ} {name : ℕ → ℕ} {roots : ℕ} {stored : List (Option ℕ)} (root place : ℕ)
    → HoldsSlots slots places name roots stored → IsPointer places place
    → HoldsSlots (slice_set slots root place) places name roots (slice_set stored root (renamed name place))
slots-set {slots = slots} {places = places} {name = name} root place holds pointer = record {
  named = ap (λ (s : List (Option ℕ)). slice_set s root (renamed name place)) holds.named ∙ sym (map-set (renamed name) slots root place);
  many = length-set slots root place ∙ holds.many;
  pointers = λ p t. elim (is_in-set p place root slots t) [
    | inl e ↦ subst (IsPointer places) (sym e) pointer
    | inr u ↦ holds.pointers p u
  ];
}

-- A slot gets a place, where what that leads to may be a root.
pub slot_stands : {heap : HeapParts} {store : Store} (root place : ℕ) (unreached doomed : List ℕ) (s : PartsStandFor heap store) → IsPointer s.places place
    → Relieves store.kept store.unreached store.doomed unreached doomed
    → ((y : ℕ) → renamed s.name place ≡ Some y → CanBeRoot store.kept unreached doomed y)
    → PartsStandFor (with_slot heap root place)
    (record store { slots = slice_set store.slots root (renamed s.name place); unreached = unreached; doomed = doomed })
slot_stands root place unreached doomed s pointer r can =
    rooted_stands s refl (slot_change root (renamed s.name place) unreached doomed s.sound r can) refl (slots-set root place s.slots pointer) s.finalizers s.links

-- the object in a slot that is not empty, as it is kept
pub object-found : (heap : HeapParts) (store : Store) (root : ℕ) (s : PartsStandFor heap store) → place_in heap root ≢ 0
    → object_in store.slots store.kept root ≡ Some (object_from heap.setup.types s.name (word_in heap) (place_in heap root))
object-found heap store root s full =
    let here = in_slot heap store root s full in
    ap (option_and_then (object_at store.kept)) here.named ∙ found-at (place_in heap root) s.words.objects here.there

-- a reference of the object in a slot
pub ref_is : (heap : HeapParts) (store : Store) (root item : ℕ) (s : PartsStandFor heap store) → place_in heap root ≢ 0 → item < (layout_in heap root).ref_count
    → ref_at store root item ≡ renamed s.name (word_in heap (ref_place heap root item))
ref_is heap store root item s full l =
    ap (λ (o : Option Object). ref_in (refs_of o) item) (object-found heap store root s full) ∙ ref-from heap.setup.types s.name (word_in heap) (place_in heap root) item l

-- A slot gets what a reference of the object in a slot leads to.
pub load_stands : (heap : HeapParts) (store : Store) (to root item : ℕ) (s : PartsStandFor heap store) → place_in heap root ≢ 0 → item < (layout_in heap root).ref_count
    → PartsStandFor (with_slot heap to (word_in heap (ref_place heap root item))) (put_in_slot store to (ref_at store root item))
load_stands heap store to root item s full l =
    let place : ℕ = word_in heap (ref_place heap root item) in
    let here = in_slot heap store root s full in
    let x : ℕ = s.name (place_in heap root) in
    let is = ref_is heap store root item s full l in
    let same : object_in store.slots store.kept root ≡ object_at store.kept x = ap (option_and_then (object_at store.kept)) here.named in
    subst (λ (b : Option ℕ). PartsStandFor (with_slot heap to place) (put_in_slot store to b)) (sym is)
    (slot_stands to place store.unreached store.doomed s (ref-pointer (place_in heap root) item s.words.objects here.there l) (relieves_none store.kept store.unreached store.doomed)
    (λ y e. can_refer s.sound x y (can_root s.sound x (held_root store root x here.named))
    (subst (λ (o : Option Object). IsTrue (is_in y (referents_in o))) same (found-ref (object_in store.slots store.kept root) item y (is ∙ e)))))

-- A slot gets what another one holds.
pub move_stands : (heap : HeapParts) (store : Store) (to from : ℕ) → PartsStandFor heap store
    → PartsStandFor (with_slot heap to (place_in heap from)) (put_in_slot store to (held store.slots from))
move_stands heap store to from s =
    let place : ℕ = place_in heap from in
    let is : held store.slots from ≡ renamed s.name place = ap (λ (ss : List (Option ℕ)). held ss from) s.slots.named ∙ held-named heap.slots s.name from in
    subst (λ (b : Option ℕ). PartsStandFor (with_slot heap to place) (put_in_slot store to b)) (sym is)
    (slot_stands to place store.unreached store.doomed s (slot-pointer heap.slots s.places from s.slots.pointers) (relieves_none store.kept store.unreached store.doomed)
    (λ y e. can_root s.sound y (held_root store from y (is ∙ e))))

-- A slot becomes empty.
pub drop_stands : (heap : HeapParts) (store : Store) (root : ℕ) → PartsStandFor heap store → PartsStandFor (with_slot heap root 0) (put_in_slot store root None)
drop_stands heap store root s =
    slot_stands root 0 store.unreached store.doomed s (inl refl) (relieves_none store.kept store.unreached store.doomed) (λ y e. absurd (let no : ⊥ = cc in no))
