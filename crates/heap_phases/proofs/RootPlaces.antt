-- The old places of the roots go by the births of the settled roots.
use Rattle.std.proofs.Common.{◌≡◌, ℕ, Bool, true, false, List, [], ◌∷◌, ◌++◌, map, Option, Some, None, refl, sym, ap, ap₂, ◌∙◌, subst, inl, inr}
use Rattle.std.specs.Prelude.{not, ◌==◌, filter, filter_map, flat_map, option_and_then}
use Rattle.std.specs.List.{cons_option}
use Rattle.std.proofs.lemmas.List.{map-append}
use Rattle.std.proofs.lemmas.List.Elements.{filter-append}
use Rattle.type_table.specs.Table.{Table, KeysRise, value_at}
use Rattle.object_model.proofs.Members.{filter-part, filter-member, in-either}
use Rattle.store_model.specs.Store.{Store, Struct, Linked, Unlinked, Pending}
use Rattle.object_model.specs.Sets.{is_in}
use Rattle.store_model.specs.Structs.{object_of, forced_object, forced_objects, with_object, with_objects}
use Rattle.store_model.specs.Roots.{roots_of}
use Rattle.store_model.specs.MarkingOrder.{settled_of}
use Rattle.heap_parts.specs.Parts.{HeapParts}
use Rattle.heap_parts.specs.Places.{is_young, old_places, AreAmong}
use Rattle.heap_parts.specs.StandsFor.{PartsStandFor}
use Rattle.birth_laws.proofs.BirthNames.{rises-unnamed}
use Rattle.frame_laws.proofs.Filters.{filter_at}
use Rattle.frame_laws.proofs.MinorNeeds.{settled_place}
use Rattle.frame_laws.proofs.PlaceLaws.{young-is_in}
use Rattle.store_model.proofs.StructLaws.{forced-at}
use Rattle.heap_phases.specs.Visiting.{old_roots}
use Rattle.heap_phases.proofs.EndLists.{names-entries, names-queues}
use Rattle.heap_phases.proofs.VisitRefs.{refs-named}

forced-named : (name : ℕ → ℕ) (structs : Table Struct) → forced_objects (with_objects name structs) ≡ map name (forced_objects structs)
forced-named name [] = refl
forced-named name (e ∷ structs) = ap (cons_option (forced_object (with_object name e.1))) (forced-named name structs) ∙ one e.1
  where
    own-zero : (b own : ℕ) (z : Bool) → (own == 0) ≡ z → cons_option (forced_object (Linked true true (name b) own)) (map name (forced_objects structs)) ≡ map name (cons_option (forced_object (Linked true true b own)) (forced_objects structs))
    own-zero b own true z = rw z refl
    own-zero b own false z = rw z refl

    one : (t : Struct) → cons_option (forced_object (with_object name t)) (map name (forced_objects structs)) ≡ map name (cons_option (forced_object t) (forced_objects structs))
    one (Linked true light b own) = own-zero b own (own == 0) refl
    one (Linked false light b own) = refl
    one (Unlinked own) = refl
    one Pending = refl

forced-linked : (t : Struct) (x : ℕ) → forced_object t ≡ Some x → object_of t ≡ Some x
forced-linked (Linked true light b own) x e = go (own == 0) refl
  where
    go : (z : Bool) → (own == 0) ≡ z → Some b ≡ Some x
    go true z = absurd (let none : None ≡ Some x = rw z at e in let no : ⊥ = cc in no)
    go false z = rw z at e
forced-linked (Linked false light b own) x e = absurd (let no : ⊥ = cc in no)
forced-linked (Unlinked own) x e = absurd (let no : ⊥ = cc in no)
forced-linked Pending x e = absurd (let no : ⊥ = cc in no)

module _ (heap : HeapParts) (store : Store) (s : PartsStandFor heap store) where
  -- listed places, of which the old ones go by settled births
  listed : (ps : List ℕ) → AreAmong s.places ps → filter (λ y. is_in y store.settled) (map s.name ps) ≡ map s.name (filter (λ q. not (is_young q)) ps)
  listed ps there = filter_at s.name (λ y. is_in y store.settled) (λ q. not (is_young q)) ps (λ p t. settled_place heap store s p (there p t))

  forced-there : AreAmong s.places (forced_objects heap.links.structs)
  forced-there p t =
      let rises = rises-unnamed s.name heap.links.structs (subst KeysRise s.links.named s.sound.links.rises) in
      let f = forced-at heap.links.structs p rises t in
      s.links.there f.number p (go (value_at heap.links.structs f.number) f.keeps)
    where
      go : (o : Option Struct) → option_and_then forced_object o ≡ Some p → option_and_then object_of o ≡ Some p
      go None e = absurd (let no : ⊥ = cc in no)
      go (Some t) e = forced-linked t p e

  pub old_roots_named : map s.name (old_roots heap) ≡ settled_of store.settled (roots_of store)
  old_roots_named =
      let slots = ap (λ (ss : List (Option ℕ)). filter (λ y. is_in y store.settled) (filter_map (λ r. r) ss)) s.slots.named
      ∙ refs-named s.name store.settled s.places heap.slots s.slots.pointers (λ q u. settled_place heap store s q u) in
      let pins = ap (filter (λ y. is_in y store.settled)) (ap (map (λ (e : ℕ × ℕ). e.0)) s.pins.named ∙ names-entries s.name heap.pins)
      ∙ listed (map (λ (e : ℕ × ℕ). e.0) heap.pins) (λ p t. (young-is_in s.places p (s.pins.there p t)).0) in
      let chosen = ap (filter (λ y. is_in y store.settled)) (ap (map (λ (e : ℕ × ℕ). e.0)) s.finalizers.chosen_are.named ∙ names-entries s.name heap.chosen)
      ∙ listed (map (λ (e : ℕ × ℕ). e.0) heap.chosen) s.finalizers.chosen_are.there in
      let queued = ap (filter (λ y. is_in y store.settled)) (ap (flat_map (λ (e : ℕ × List ℕ). e.1)) s.finalizers.queues_are.named ∙ names-queues s.name heap.queues)
      ∙ listed (flat_map (λ (e : ℕ × List ℕ). e.1) heap.queues) s.finalizers.queues_are.there in
      let forced = ap (filter (λ y. is_in y store.settled)) (ap forced_objects s.links.named ∙ forced-named s.name heap.links.structs) ∙ listed (forced_objects heap.links.structs) forced-there in
      sym (split (filter_map (λ slot. slot) store.slots) _ heap.slots _ slots
      (split (map (λ (e : ℕ × ℕ). e.0) store.pinned) _ (map (λ (e : ℕ × ℕ). e.0) heap.pins) _ pins
      (split (map (λ (e : ℕ × ℕ). e.0) store.chosen) _ (map (λ (e : ℕ × ℕ). e.0) heap.chosen) _ chosen
      (split (flat_map (λ (e : ℕ × List ℕ). e.1) store.queues) (forced_objects store.structs) (flat_map (λ (e : ℕ × List ℕ). e.1) heap.queues) (forced_objects heap.links.structs) queued forced))))
    where
      split : (xs ys ps qs : List ℕ) → filter (λ y. is_in y store.settled) xs ≡ map s.name (filter (λ q. not (is_young q)) ps)
          → filter (λ y. is_in y store.settled) ys ≡ map s.name (filter (λ q. not (is_young q)) qs)
          → filter (λ y. is_in y store.settled) (xs ++ ys) ≡ map s.name (filter (λ q. not (is_young q)) (ps ++ qs))
      split xs ys ps qs a b = filter-append (λ y. is_in y store.settled) xs ys ∙ (ap₂ (λ (us vs : List ℕ). us ++ vs) a b
          ∙ (sym (map-append s.name (filter (λ q. not (is_young q)) ps) (filter (λ q. not (is_young q)) qs)) ∙ ap (map s.name) (sym (filter-append (λ q. not (is_young q)) ps qs))))

  -- and are old places
  pub old_roots_there : AreAmong (old_places s.places) (old_roots heap)
  old_roots_there p t =
      let part = filter-part (λ q. not (is_young q)) _ p t in
      filter-member (λ q. not (is_young q)) s.places p (elim (in-either p heap.slots _ part.0) [
        | inl a ↦ elim (s.slots.pointers p a) [
          | inl z ↦ absurd (let old : not (is_young p) ≡ true = part.1 in let young : not (is_young p) ≡ false = ap (λ (q : ℕ). not (is_young q)) z in let no : ⊥ = cc in no)
          | inr there ↦ there
        ]
        | inr a ↦ elim (in-either p (map (λ (e : ℕ × ℕ). e.0) heap.pins) _ a) [
          | inl b ↦ (young-is_in s.places p (s.pins.there p b)).0
          | inr b ↦ elim (in-either p (map (λ (e : ℕ × ℕ). e.0) heap.chosen) _ b) [
            | inl c ↦ s.finalizers.chosen_are.there p c
            | inr c ↦ elim (in-either p (flat_map (λ (e : ℕ × List ℕ). e.1) heap.queues) (forced_objects heap.links.structs) c) [
              | inl d ↦ s.finalizers.queues_are.there p d
              | inr d ↦ forced-there p d
            ]
          ]
        ]
      ]) part.1
