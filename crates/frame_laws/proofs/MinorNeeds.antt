-- What a minor collection stands on, told by words.
use Rattle.std.proofs.Common.{◌≡◌, ℕ, ◌+◌, ◌<◌, ◌⊎◌, Bool, false, IsTrue, List, [], ◌∷◌, map, Option, Some, None, refl, sym, ap, ◌∙◌, subst, inl, inr, arith}
use Rattle.std.specs.Prelude.{◌==◌, ◌&&◌, not, slice_get, option_and_then}
use Rattle.std.specs.List.{list_any}
use Rattle.std.proofs.lemmas.Bool.{cases_Bool, eq-eqb}
use Rattle.std.proofs.lemmas.Bool.Decides.{eqb_tells}
use Rattle.object_model.proofs.Members.{is_in-head, is_in-tail, or_cases, or_first, or_second}
use Rattle.object_view.proofs.LayoutLaws.{laid_out}
use Rattle.object_view.proofs.FoundLaws.{found-at, ref-from}
use Rattle.object_model.specs.Object.{Object}
use Rattle.store_model.specs.Store.{Store}
use Rattle.object_model.specs.Sets.{is_in}
use Rattle.object_model.specs.Fields.{refs_of, ref_in}
use Rattle.store_model.specs.MarkingOrder.{IsItem}
use Rattle.object_model.specs.ObjectWords.{renamed, object_from, layout_at}
use Rattle.remember_cards.specs.Remembered.{Held, is_held, holds_item}
use Rattle.parts_model.specs.Parts.{HeapParts, word_in}
use Rattle.parts_model.specs.Places.{is_young, old_places, AreAmong}
use Rattle.parts_model.specs.StandsFor.{PartsStandFor}
use Rattle.frame_laws.proofs.SlotLaws.{pointer-some}
use Rattle.frame_laws.proofs.PlaceLaws.{settled-old, old-is_in}

-- an object is unsettled exactly where its place lies in the nursery
pub settled_place : (heap : HeapParts) (store : Store) (s : PartsStandFor heap store) (p : ℕ) → IsTrue (is_in p s.places)
    → is_in (s.name p) store.settled ≡ not (is_young p)
settled_place heap store s p t = ap (is_in (s.name p)) s.births.settled_are ∙ settled-old s.name s.places p t s.words.objects.differ

held-place : (card : ℕ) (hs : List Held) (name : ℕ → ℕ) (places : List ℕ) (p i : ℕ) → AreAmong places (map (λ (h : Held). h.place) hs)
    → ((q : ℕ) → IsTrue (is_in q places) → name q ≡ name p → q ≡ p)
    → IsTrue (list_any (λ h. name h.place == name p && holds_item card h i) hs) → IsTrue (list_any (λ h. h.place == p && holds_item card h i) hs)
held-place card [] name places p i among differ t = t
held-place card (h ∷ hs) name places p i among differ t =
    elim (or_cases (name h.place == name p && holds_item card h i) (list_any (λ g. name g.place == name p && holds_item card g i) hs) t) [
      | inl here ↦ or_first (h.place == p && holds_item card h i) (list_any (λ g. g.place == p && holds_item card g i) hs)
          (elim (eqb_tells (name h.place) (name p)) [
            | inl e ↦ rw (eq-eqb h.place p (differ h.place (among h.place (is_in-head h.place (map (λ (g : Held). g.place) hs))) e.1))
                (subst (λ (b : Bool). IsTrue (b && holds_item card h i)) e.0 here)
            | inr e ↦ absurd (let f : (name h.place == name p && holds_item card h i) ≡ false = rw e.0 refl in let no : ⊥ = cc in no)
          ])
      | inr there ↦ or_second (h.place == p && holds_item card h i) (list_any (λ g. g.place == p && holds_item card g i) hs)
          (held-place card hs name places p i (λ q u. among q (is_in-tail q h.place (map (λ (g : Held). g.place) hs) u)) differ there)
    ]

some-item : (refs : List (Option ℕ)) (i y : ℕ) → ref_in refs i ≡ Some y → slice_get refs i ≡ Some (Some y)
some-item refs i y e = go (slice_get refs i) e
  where
    go : (r : Option (Option ℕ)) → option_and_then (λ b. b) r ≡ Some y → r ≡ Some (Some y)
    go None e = absurd (let no : ⊥ = cc in no)
    go (Some r) e = ap Some e

-- each reference of a settled object is nil, leads outside the nursery, or lies in a remembered item
pub remembered_words : (heap : HeapParts) (store : Store) (s : PartsStandFor heap store) (p j : ℕ) → IsTrue (is_in p (old_places s.places))
    → j < (layout_at heap.setup.types (word_in heap) p).ref_count
    → (word_in heap ((layout_at heap.setup.types (word_in heap) p).ref_start + j) ≡ 0)
    ⊎ ((is_young (word_in heap ((layout_at heap.setup.types (word_in heap) p).ref_start + j)) ≡ false) ⊎ IsTrue (is_held heap.remembered p j))
remembered_words heap store s p j t l =
    let types = heap.setup.types in let w = word_in heap in
    let old = old-is_in s.places p t in
    let to : ℕ = w ((layout_at types w p).ref_start + j) in
    let pointer = s.words.objects.closed p j old.0 (omega (arith, l, (laid_out types w p).refs)) in
    elim (eqb_tells to 0) [
      | inl e ↦ inl e.1
      | inr e ↦ inr (
          let there : IsTrue (is_in to s.places) = pointer-some s.places to pointer e.1 in
          let named : renamed s.name to ≡ Some (s.name to) = rw e.0 refl in
          let item : IsItem store.kept (s.name p) j (s.name to) =
          subst (λ (o : Option Object). slice_get (refs_of o) j ≡ Some (Some (s.name to))) (sym (found-at p s.words.objects old.0))
          (some-item (object_from types s.name w p).refs j (s.name to) (ref-from types s.name w p j l ∙ named)) in
          let settled : IsTrue (is_in (s.name p) store.settled) = settled_place heap store s p old.0 ∙ ap not old.1 in
          elim (s.order.young (s.name p) j (s.name to) settled item) [
            | inl is ↦ inl (elim (cases_Bool (is_young to)) [
              | inl young ↦ absurd (let out : is_in (s.name to) store.settled ≡ false = settled_place heap store s to there ∙ ap not young in let no : ⊥ = cc in no)
              | inr not_young ↦ not_young
            ])
            | inr held ↦ inr (held-place heap.remembered.card heap.remembered.held s.name (old_places s.places) p j s.remembered.there
                (λ q u e. s.words.objects.differ q p (old-is_in s.places q u).0 old.0 e) held)
          ])
    ]
