-- A reference is put into a settled object.
use Rattle.std.proofs.Common.{◌≡◌, ◌≢◌, ℕ, ◌<◌, Bool, false, IsTrue, List, [], ◌∷◌, Option, refl, sym, ap, ◌∙◌, subst, inl, inr}
use Rattle.std.specs.Prelude.{◌==◌, ◌&&◌}
use Rattle.std.specs.List.{list_any}
use Rattle.std.proofs.lemmas.Bool.{eq-eqb}
use Rattle.std.proofs.lemmas.Bool.Decides.{eqb_tells}
use Rattle.object_model.proofs.Members.{or_cases, or_first, or_second}
use Rattle.store_model.specs.Store.{Store}
use Rattle.object_model.specs.Sets.{is_in}
use Rattle.store_model.specs.Slots.{held}
use Rattle.store_model.specs.Steps.{put_ref}
use Rattle.object_model.specs.ObjectWords.{renamed}
use Rattle.remember_cards.specs.Remembered.{Held, is_held_of, holds_item, with_whole}
use Rattle.parts_model.specs.Parts.{HeapParts, place_in}
use Rattle.parts_model.specs.Places.{old_places}
use Rattle.parts_model.specs.StandsFor.{PartsStandFor}
use Rattle.parts_model.specs.Effects.{with_barrier, with_word_at, ref_place, layout_in}
use Rattle.frame_laws.proofs.SlotLaws.{held-named, slot-pointer}
use Rattle.frame_laws.proofs.HeldLaws.{whole_here}
use Rattle.frame_laws.proofs.BarrierLaws.{barrier_stands}
use Rattle.frame_laws.proofs.StandLaws.{link_stands}
use Rattle.store_model.proofs.RootLaws.{held_root}

whole-covers : (card : ℕ) (hs : List Held) (name : ℕ → ℕ) (p i : ℕ) → IsTrue (list_any (λ h. h.place == p && h.is_whole) hs)
    → IsTrue (list_any (λ h. name h.place == name p && holds_item card h i) hs)
whole-covers card [] name p i t = t
whole-covers card (h ∷ hs) name p i t = elim (or_cases (h.place == p && h.is_whole) (list_any (λ g. g.place == p && g.is_whole) hs) t) [
  | inl here ↦ or_first (name h.place == name p && holds_item card h i) (list_any (λ g. name g.place == name p && holds_item card g i) hs)
      (elim (eqb_tells h.place p) [
        | inl e ↦ rw (eq-eqb (name h.place) (name p) (ap name e.1)) (let w : IsTrue h.is_whole = subst (λ (b : Bool). IsTrue (b && h.is_whole)) e.0 here in or_first h.is_whole _ w)
        | inr e ↦ absurd (let f : (h.place == p && h.is_whole) ≡ false = rw e.0 refl in let no : ⊥ = cc in no)
      ])
  | inr there ↦ or_second (name h.place == name p && holds_item card h i) (list_any (λ g. name g.place == name p && holds_item card g i) hs) (whole-covers card hs name p i there)
]

-- The settled object in a slot is remembered, and then gets a reference to what another slot holds.
pub link_old_stands : (heap : HeapParts) (store : Store) (root item from : ℕ) (s : PartsStandFor heap store) → place_in heap root ≢ 0
    → IsTrue (is_in (place_in heap root) (old_places s.places)) → item < (layout_in (with_barrier heap (place_in heap root)) root).ref_count
    → PartsStandFor (with_word_at (with_barrier heap (place_in heap root)) (ref_place (with_barrier heap (place_in heap root)) root item) (place_in heap from))
    (put_ref store root item (held store.slots from))
link_old_stands heap store root item from s full old l =
    let p = place_in heap root in
    let after = barrier_stands heap store p s old in
    let named : held store.slots from ≡ renamed after.name (place_in heap from) = ap (λ (ss : List (Option ℕ)). held ss from) after.slots.named ∙ held-named heap.slots after.name from in
    let covered : IsTrue (is_held_of (with_whole heap.remembered p) after.name (after.name p) item) =
    whole-covers heap.remembered.card (with_whole heap.remembered p).held after.name p item (whole_here heap.remembered p) in
    subst (λ (b : Option ℕ). PartsStandFor (with_word_at (with_barrier heap p) (ref_place (with_barrier heap p) root item) (place_in heap from)) (put_ref store root item b)) (sym named)
    (link_stands (with_barrier heap p) store root item (place_in heap from) after full l
    (slot-pointer heap.slots after.places from after.slots.pointers) (λ y e. let root = held_root store from y (named ∙ e) in record { is_there = s.sound.roots y root; reached = s.sound.roots_reached y root; retained = s.sound.roots_retained y root }) (λ t. covered))
