-- What calls on root slots do.
use Rattle.std.proofs.Common.{◌≡◌, ◌≢◌, ℕ, Bool, IsTrue, List, [], ◌∷◌, Option, Some, None, refl, sym, ap, ◌∙◌, inl, inr}
use Rattle.std.specs.Prelude.{◌==◌}
use Rattle.std.proofs.lemmas.Bool.{ne_eqb, eq-eqb}
use Rattle.std.proofs.lemmas.Bool.Decides.{eqb_tells}
use Rattle.text_model.specs.declared.command.Command.TheVariants.{Load, MoveRoot, DropRoot, Same}
use Rattle.text_model.specs.declared.line.Line.TheVariants.{Loaded, SameAs}
use Rattle.object_model.specs.Sets.{is_in}
use Rattle.object_model.specs.ObjectWords.{renamed}
use Rattle.object_model.specs.Holds.{IsPointer}
use Rattle.object_view.specs.Views.{HasObject}
use Rattle.object_view.proofs.FoundLaws.{ref-pointer}
use Rattle.store_model.specs.Store.{Store}
use Rattle.store_model.specs.Slots.{held, put_in_slot, is_same}
use Rattle.store_model.specs.Steps.{Does, ref_at}
use Rattle.heap_parts.specs.Parts.{HeapParts, word_in, place_in}
use Rattle.heap_parts.specs.StandsFor.{PartsStandFor}
use Rattle.heap_parts.specs.Effects.{with_slot, birth_read, ref_place}
use Rattle.frame_laws.proofs.SlotLaws.{held-named, slot-pointer, pointer-some}
use Rattle.frame_laws.proofs.StandLaws.{in_slot}
use Rattle.frame_laws.proofs.RootStands.{ref_is, load_stands, move_stands, drop_stands}
use Rattle.heap_core.specs.Commands.{AreReady, PartsDo}
use Rattle.heap_core.proofs.Ready.{HasRef, load_ready}

-- what a slot holds goes by the name of its place
pub slot-holds : (heap : HeapParts) (store : Store) (root : ℕ) (s : PartsStandFor heap store) → held store.slots root ≡ renamed s.name (place_in heap root)
slot-holds heap store root s = ap (λ (ss : List (Option ℕ)). held ss root) s.slots.named ∙ held-named heap.slots s.name root

-- the birth at a place that references may have is its name
pub birth-named : (heap : HeapParts) (store : Store) (s : PartsStandFor heap store) (place : ℕ) → IsPointer s.places place
    → birth_read (word_in heap) place ≡ renamed s.name place
birth-named heap store s place pointer = elim (eqb_tells place 0) [
  | inl e ↦ rw e.0 refl
  | inr e ↦ rw e.0 (ap Some (sym (s.words.objects.named place (pointer-some s.places place pointer e.1))))
]

-- a reference of the object in a slot is nil or the place of an object
pub reference-pointer : (heap : HeapParts) (store : Store) (root item : ℕ) → HasRef heap root item → (s : PartsStandFor heap store)
    → IsPointer s.places (word_in heap (ref_place heap root item))
reference-pointer heap store root item has s =
    ref-pointer (place_in heap root) item s.words.objects (in_slot heap store root s has.full).there has.item_in

-- and where it is not nil a whole object stands there
pub load_whole : (heap : HeapParts) (to root item : ℕ) → AreReady heap (Load to root item) → word_in heap (ref_place heap root item) ≢ 0
    → HasObject heap.memory heap.setup.types (word_in heap (ref_place heap root item))
load_whole heap to root item ready full =
    let s = ready.standing.stands in
    s.words.whole (word_in heap (ref_place heap root item)) (pointer-some s.places (word_in heap (ref_place heap root item))
    (reference-pointer heap ready.standing.store root item (load_ready heap to root item ready).1 s) full)

pub load_does : (heap : HeapParts) (to root item : ℕ) → AreReady heap (Load to root item)
    → PartsDo heap (with_slot heap to (word_in heap (ref_place heap root item))) (Load to root item)
    (Loaded (birth_read (word_in heap) (word_in heap (ref_place heap root item))) ∷ [])
unfolding Does
load_does heap to root item ready =
    let has = (load_ready heap to root item ready).1 in record {
      setup = refl;
      does = λ store s. (
        put_in_slot store to (ref_at store root item),
        (
          ap (λ (b : Option ℕ). Loaded b ∷ []) (birth-named heap store s (word_in heap (ref_place heap root item)) (reference-pointer heap store root item has s)
              ∙ sym (ref_is heap store root item s has.full has.item_in)),
          refl,
        ),
        load_stands heap store to root item s has.full has.item_in,
      );
    }

pub move_does : (heap : HeapParts) (to from : ℕ) → PartsDo heap (with_slot heap to (place_in heap from)) (MoveRoot to from) []
unfolding Does
move_does heap to from = record {
  setup = refl;
  does = λ store s. (put_in_slot store to (held store.slots from), (refl, refl), move_stands heap store to from s);
}

pub drop_does : (heap : HeapParts) (root : ℕ) → PartsDo heap (with_slot heap root 0) (DropRoot root) []
unfolding Does
drop_does heap root = record { setup = refl; does = λ store s. (put_in_slot store root None, (refl, refl), drop_stands heap store root s) }

-- places of objects are the same where their births are
same-named : (places : List ℕ) (name : ℕ → ℕ) (a b : ℕ) → IsPointer places a → IsPointer places b
    → ((p q : ℕ) → IsTrue (is_in p places) → IsTrue (is_in q places) → name p ≡ name q → p ≡ q)
    → (a == b) ≡ is_same (renamed name a) (renamed name b)
same-named places name a b at bt differ = elim (eqb_tells a 0) [
  | inl e ↦ elim (eqb_tells b 0) [
    | inl f ↦ rw (e.0, f.0) (eq-eqb a b (e.1 ∙ sym f.1))
    | inr f ↦ rw (e.0, f.0) (ne_eqb a b (λ is. f.1 (sym is ∙ e.1)))
  ]
  | inr e ↦ elim (eqb_tells b 0) [
    | inl f ↦ rw (e.0, f.0) (ne_eqb a b (λ is. e.1 (is ∙ f.1)))
    | inr f ↦ rw (e.0, f.0) (elim (eqb_tells a b) [
      | inl is ↦ is.0 ∙ sym (eq-eqb (name a) (name b) (ap name is.1))
      | inr is ↦ is.0 ∙ sym (ne_eqb (name a) (name b) (λ same. is.1 (differ a b (pointer-some places a at e.1) (pointer-some places b bt f.1) same)))
    ])
  ]
]

-- two slots hold the same where they have the same place
same_is : (heap : HeapParts) (store : Store) (a b : ℕ) → PartsStandFor heap store
    → (place_in heap a == place_in heap b) ≡ is_same (held store.slots a) (held store.slots b)
same_is heap store a b s =
    same-named s.places s.name (place_in heap a) (place_in heap b) (slot-pointer heap.slots s.places a s.slots.pointers) (slot-pointer heap.slots s.places b s.slots.pointers) s.words.objects.differ
    ∙ (ap (λ (x : Option ℕ). is_same x (renamed s.name (place_in heap b))) (sym (slot-holds heap store a s))
    ∙ ap (λ (x : Option ℕ). is_same (held store.slots a) x) (sym (slot-holds heap store b s)))

pub same_does : (heap : HeapParts) (a b : ℕ) → PartsDo heap heap (Same a b) (SameAs (place_in heap a == place_in heap b) ∷ [])
unfolding Does
same_does heap a b = record {
  setup = refl;
  does = λ store s. (store, (ap (λ (yes : Bool). SameAs yes ∷ []) (same_is heap store a b s), refl), s);
}
