-- What calls do with an object that was found before.
use Rattle.std.proofs.Common.{◌≡◌, ◌≢◌, ℕ, ◌+◌, ◌<◌, ◌≤◌, Option, Some, None, option_map, refl, sym, ap, ◌∙◌, subst, inl, inr, arith}
use Rattle.std.specs.Prelude.{is_some, not, ◌==◌}
use Rattle.std.proofs.lemmas.Bool.Decides.{eqb_tells}
use Rattle.type_table.specs.declared.info.TypeInfo.{TypeInfo}
use Rattle.type_table.specs.Table.{Table}
use Rattle.object_model.specs.Layout.{Layout}
use Rattle.object_model.specs.ObjectWords.{layout_at}
use Rattle.heap_space.specs.Places.{word_at}
use Rattle.heap_space.specs.Memory.{Memory}
use Rattle.heap_space.specs.Order.{IsInOrder}
use Rattle.object_view.specs.declared.fields.ObjView.{ObjView}
use Rattle.object_view.specs.Views.{HasObject, HasView, view_of, view_at}
use Rattle.object_view.proofs.ViewLaws.{has_view-of}
use Rattle.weak_lists.proofs.TargetLaws.{target-item}
use Rattle.text_model.specs.declared.command.Command.TheVariants.{Put, Get, Link, Load, Deref}
use Rattle.heap_parts.specs.Parts.{HeapParts, word_in, place_in}
use Rattle.heap_parts.specs.Told.{kind_at}
use Rattle.heap_parts.specs.Effects.{layout_in}
use Rattle.heap_parts.specs.Remembers.{RemembersItems}
use Rattle.heap_core.specs.declared.found.Found.{Found}
use Rattle.heap_core.specs.Found.{kind_of, found_from, found_at, found_of, IsFound}
use Rattle.heap_core.specs.Commands.{AreReady}
use Rattle.heap_core.proofs.Ready.{HasInt, HasRef, put_ready, get_ready, link_ready, load_ready}
use Rattle.heap_core.proofs.WeakReady.{deref_ready}
use Rattle.heap_core.proofs.BarrierCalls.{link_ready_after, link_layout_after}

-- the parts of an object that lie so are in the memory
lies-view : (m : Memory) (types : Table TypeInfo) (a id birth : ℕ) → HasView m (view_at types (word_at m.blocks) a) a
    → HasView m (view_of id birth (layout_at types (word_at m.blocks) a)) a
lies-view m types a id birth h = record { whole = h.whole; fits = h.fits; begins = h.begins; ordered = h.ordered; ends = h.ends }

-- what was found of an object has its parts in the memory
found-view : (m : Memory) (types : Table TypeInfo) (found : Found) → IsInOrder m → IsFound m types found → HasView m found.view found.place
found-view m types found o f =
    let P : ObjView → Type 0 = λ v. HasView m v found.place in
    subst P (sym f.lies) (lies-view m types found.place found.view.type_id found.view.birth (has_view-of m types found.place o f.object))

-- the same where the parts of a heap are open
pub open-view : (now seen : HeapParts) (found : Found) → seen ≡ now → IsInOrder seen.memory → IsFound now.memory now.setup.types found
    → HasView seen.memory found.view found.place
open-view now seen found is o f =
    found-view seen.memory seen.setup.types found o (subst (λ (h : HeapParts). IsFound h.memory h.setup.types found) (sym is) f)

-- a reference of what was found lies in front of its end
pub ref-inside : (m : Memory) (found : Found) (item : ℕ) → HasView m found.view found.place → item < found.view.ref_count
    → found.view.ref_start + item < found.place + found.view.words
ref-inside m found item h l = omega (arith, l, h.ends)

-- the object in a slot was found, if there is one
found-is : (types : Table TypeInfo) (word : ℕ → ℕ) (place : ℕ) → place ≢ 0 → found_at types word place ≡ Some (found_from types word place)
found-is types word place full = elim (eqb_tells place 0) [
  | inl e ↦ absurd (full e.1)
  | inr e ↦ rw e.0 refl
]

-- where nothing is told of a place, nothing is found there
pub found-none : (types : Table TypeInfo) (word : ℕ → ℕ) (place : ℕ) → kind_at types word place ≡ None → found_at types word place ≡ None
found-none types word place none = elim (eqb_tells place 0) [
  | inl e ↦ rw e.0 refl
  | inr e ↦ absurd (let some : kind_at types word place ≡ Some (kind_of (found_from types word place)) = rw e.0 refl in let no : ⊥ = cc in no)
]

-- a place has a kind just where it is one
pub full-kind : (types : Table TypeInfo) (word : ℕ → ℕ) (place : ℕ) → is_some (kind_at types word place) ≡ not (place == 0)
full-kind types word place = elim (eqb_tells place 0) [
  | inl e ↦ rw e.0 refl
  | inr e ↦ rw e.0 refl
]

-- the kind of what is found at a place is what is told of it
pub found-kind : (types : Table TypeInfo) (word : ℕ → ℕ) (place : ℕ) → option_map kind_of (found_at types word place) ≡ kind_at types word place
found-kind types word place = elim (eqb_tells place 0) [
  | inl e ↦ rw e.0 refl
  | inr e ↦ rw e.0 refl
]

-- What was found of the object in a slot is what is seen there now.
pub record Sees (heap : HeapParts) (root : ℕ) (seen : Found) : Type 0 where
  pub is : seen ≡ found_from heap.setup.types (word_in heap) (place_in heap root)
  pub found : IsFound heap.memory heap.setup.types seen

sees-from : (heap : HeapParts) (root : ℕ) (seen : Found) → seen ≡ found_from heap.setup.types (word_in heap) (place_in heap root)
    → HasObject heap.memory heap.setup.types (place_in heap root) → Sees heap root seen
sees-from heap root seen is object =
    let from : Found = found_from heap.setup.types (word_in heap) (place_in heap root) in
    let found : IsFound heap.memory heap.setup.types from = record { object = object; lies = refl } in
    subst (Sees heap root) (sym is) (record { is = refl; found = found })

same-some : (found : Option Found) (a b : Found) → found ≡ Some a → found ≡ Some b → a ≡ b
same-some found a b is at = cc

pub sees : (heap : HeapParts) (root : ℕ) (found : Option Found) (seen : Found) → found ≡ found_of heap root → found ≡ Some seen → place_in heap root ≢ 0
    → HasObject heap.memory heap.setup.types (place_in heap root) → Sees heap root seen
sees heap root found seen is some full object =
    sees-from heap root seen
    (same-some found seen (found_from heap.setup.types (word_in heap) (place_in heap root)) some (is ∙ found-is heap.setup.types (word_in heap) (place_in heap root) full)) object

-- the object of a command that is not refused was found
pub finds : (heap : HeapParts) (root : ℕ) (found : Option Found) → found ≡ found_of heap root → place_in heap root ≢ 0 → found ≢ None
finds heap root found is full none =
    let some : found ≡ Some (found_from heap.setup.types (word_in heap) (place_in heap root)) =
    is ∙ found-is heap.setup.types (word_in heap) (place_in heap root) full in
    let no : ⊥ = cc in no

int-in : (heap : HeapParts) (root item : ℕ) (seen : Found) → Sees heap root seen → HasInt heap root item → item < seen.view.int_count
int-in heap root item seen s has = subst (λ (f : Found). item < f.view.int_count) (sym s.is) has.item_in

ref-in : (heap : HeapParts) (root item : ℕ) (seen : Found) → Sees heap root seen → HasRef heap root item → item < seen.view.ref_count
ref-in heap root item seen s has = subst (λ (f : Found). item < f.view.ref_count) (sym s.is) has.item_in

pub put_finds : (heap : HeapParts) (root item value : ℕ) (found : Option Found) → AreReady heap (Put root item value) → found ≡ found_of heap root → found ≢ None
put_finds heap root item value found ready is = finds heap root found is (put_ready heap root item value ready).full

pub put_sees : (heap : HeapParts) (root item value : ℕ) (found : Option Found) (seen : Found) → AreReady heap (Put root item value) → found ≡ found_of heap root
    → found ≡ Some seen → Sees heap root seen × (item < seen.view.int_count)
put_sees heap root item value found seen ready is some =
    let has = put_ready heap root item value ready in
    let s = sees heap root found seen is some has.full has.object.object in
    (s, int-in heap root item seen s has)

pub get_finds : (heap : HeapParts) (root item : ℕ) (found : Option Found) → AreReady heap (Get root item) → found ≡ found_of heap root → found ≢ None
get_finds heap root item found ready is = finds heap root found is (get_ready heap root item ready).full

pub get_sees : (heap : HeapParts) (root item : ℕ) (found : Option Found) (seen : Found) → AreReady heap (Get root item) → found ≡ found_of heap root
    → found ≡ Some seen → Sees heap root seen × (item < seen.view.int_count)
get_sees heap root item found seen ready is some =
    let has = get_ready heap root item ready in
    let s = sees heap root found seen is some has.full has.object.object in
    (s, int-in heap root item seen s has)

pub link_finds : (heap : HeapParts) (root item from : ℕ) (found : Option Found) → AreReady heap (Link root item from) → found ≡ found_of heap root → found ≢ None
link_finds heap root item from found ready is = finds heap root found is (link_ready heap root item from ready).full

pub link_sees : (heap : HeapParts) (root item from : ℕ) (found : Option Found) (seen : Found) → AreReady heap (Link root item from) → found ≡ found_of heap root
    → found ≡ Some seen → Sees heap root seen × (item < seen.view.ref_count)
link_sees heap root item from found seen ready is some =
    let has = link_ready heap root item from ready in
    let s = sees heap root found seen is some has.full has.object.object in
    (s, ref-in heap root item seen s has)

pub load_finds : (heap : HeapParts) (to root item : ℕ) (found : Option Found) → AreReady heap (Load to root item) → found ≡ found_of heap root → found ≢ None
load_finds heap to root item found ready is = finds heap root found is (load_ready heap to root item ready).1.full

pub load_sees : (heap : HeapParts) (to root item : ℕ) (found : Option Found) (seen : Found) → AreReady heap (Load to root item) → found ≡ found_of heap root
    → found ≡ Some seen → Sees heap root seen × (item < seen.view.ref_count)
load_sees heap to root item found seen ready is some =
    let has = (load_ready heap to root item ready).1 in
    let s = sees heap root found seen is some has.full has.object.object in
    (s, ref-in heap root item seen s has)

pub deref_finds : (heap : HeapParts) (to root : ℕ) (found : Option Found) → AreReady heap (Deref to root) → found ≡ found_of heap root → found ≢ None
deref_finds heap to root found ready is = finds heap root found is (deref_ready heap to root ready).1.full

pub deref_sees : (heap : HeapParts) (to root : ℕ) (found : Option Found) (seen : Found) → AreReady heap (Deref to root) → found ≡ found_of heap root
    → found ≡ Some seen → Sees heap root seen × (seen.view.ref_start < seen.place + seen.view.words)
deref_sees heap to root found seen ready is some =
    let has = (deref_ready heap to root ready).1 in
    let s = sees heap root found seen is some has.full has.object.object in
    let place : seen.place ≡ place_in heap root = ap (λ (f : Found). f.place) s.is in
    let inside = target-item heap.setup.types (word_in heap) (place_in heap root) seen.view (ap (λ (f : Found). f.view) s.is) has.weak in
    (s, omega (arith, place, inside))

-- what was found of a settled object is so still after its item was remembered
pub found_after : (heap new : HeapParts) (root item from : ℕ) (seen : Found) → AreReady heap (Link root item from) → Sees heap root seen → 4294967296 ≤ place_in heap root
    → RemembersItems heap new (place_in heap root) item 1 → IsFound new.memory new.setup.types seen
found_after heap new root item from seen ready s high r =
    let same_root : place_in new root ≡ place_in heap root = ap (λ (h : HeapParts). place_in h root) r.only in
    let object : HasObject new.memory new.setup.types (place_in heap root) =
    subst (λ (p : ℕ). HasObject new.memory new.setup.types p) same_root (link_ready_after heap new root item from ready high r).object.object in
    let layout : layout_at new.setup.types (word_in new) (place_in heap root) ≡ layout_in heap root =
    ap (λ (p : ℕ). layout_at new.setup.types (word_in new) p) (sym same_root) ∙ link_layout_after heap new root item from ready high r in
    let here : Found = found_from heap.setup.types (word_in heap) (place_in heap root) in
    let found : IsFound new.memory new.setup.types here =
    record { object = object; lies = ap (λ (l : Layout). view_of here.view.type_id here.view.birth l) (sym layout) } in
    subst (λ (f : Found). IsFound new.memory new.setup.types f) (sym s.is) found

-- and the reference lies where it lay
pub ref_after : (heap new : HeapParts) (root item from : ℕ) (seen : Found) → AreReady heap (Link root item from) → Sees heap root seen → 4294967296 ≤ place_in heap root
    → RemembersItems heap new (place_in heap root) item 1 → seen.view.ref_start ≡ (layout_in new root).ref_start
ref_after heap new root item from seen ready s high r =
    ap (λ (f : Found). f.view.ref_start) s.is ∙ ap (λ (l : Layout). l.ref_start) (sym (link_layout_after heap new root item from ready high r))
