-- An object is registered, or comes out of its queue.
use Rattle.std.proofs.Common.{◌≡◌, ◌≢◌, ℕ, IsTrue, List, [], ◌∷◌, ◌++◌, map, Option, Some, None, refl, sym, ap, ap₂, ◌∙◌, subst, inl, inr, arith}
use Rattle.std.specs.Prelude.{IsFalse, slice_set, option_map}
use Rattle.std.proofs.lemmas.List.{map-append}
use Rattle.type_table.specs.Table.{Table, value_at}
use Rattle.object_model.proofs.Members.{is_in-append}
use Rattle.store_model.specs.Store.{Store}
use Rattle.object_model.specs.Sets.{is_in}
use Rattle.store_model.specs.Slots.{held}
use Rattle.store_model.specs.Look.{is_held_in}
use Rattle.store_model.specs.Sound.{waiting_births}
use Rattle.store_model.specs.Roots.{registered_births}
use Rattle.store_model.specs.PlainCommands.{register_slot, registered_with, first_of, without_first, next_of, take_next}
use Rattle.parts_model.specs.NamedFinals.{NamedFinals}
use Rattle.parts_model.specs.Effects.{with_slot}
use Rattle.parts_model.specs.Parts.{HeapParts, place_in}
use Rattle.parts_model.specs.Registers.{with_final, with_registered, next_place, less_final, without_next}
use Rattle.parts_model.specs.Lists.{named_queues, HoldsSlots}
use Rattle.parts_model.specs.StandsFor.{PartsStandFor}
use Rattle.frame_laws.proofs.StandLaws.{in_slot}
use Rattle.store_model.proofs.RootLaws.{held_root, can_root, RootChange}
use Rattle.store_model.proofs.RootChanges.{register_change, next_change}
use Rattle.parts_model.proofs.QueueTables.{value-told, with-told, without-told}
use Rattle.frame_laws.proofs.RootStands.{rooted_stands, slots-set}
use Rattle.frame_laws.proofs.ReviveStands.{place_or_nil, renamed-full}
use Rattle.store_model.proofs.QueueLaws.{first-less, first-queued, first-is}

-- The object in a slot is registered, which is neither registered nor waits for its queue yet.
pub register_stands : (heap : HeapParts) (store : Store) (root queue : ℕ) (s : PartsStandFor heap store) → place_in heap root ≢ 0
    → IsFalse (is_held_in (held store.slots root) (registered_births store ++ waiting_births store))
    → PartsStandFor (with_registered heap (place_in heap root) queue) (register_slot store root queue)
register_stands heap store root queue s full out =
    let place : ℕ = place_in heap root in let birth : ℕ = s.name place in
    let here = in_slot heap store root s full in
    let root_is = can_root s.sound birth (held_root store root birth here.named) in
    let new : Store = record store { registered = store.registered ++ (birth, queue) ∷ [] } in
    let change : RootChange heap.setup.settings store new = register_change birth queue s.sound root_is
    (subst (λ (b : Option ℕ). IsFalse (is_held_in b (registered_births store ++ waiting_births store))) here.named out) in
    subst (λ (b : Option ℕ). PartsStandFor (with_registered heap place queue) (record store { registered = registered_with store.registered b queue })) (sym here.named)
    (rooted_stands s refl change refl s.slots (record {
      registered_are = record {
        named = ap (λ (xs : List (ℕ × ℕ)). xs ++ (birth, queue) ∷ []) s.finalizers.registered_are.named ∙ sym (map-append (λ (e : ℕ × ℕ). (s.name e.0, e.1)) heap.registered ((place, queue) ∷ []));
        there = λ p t. elim (is_in-append (map (λ (e : ℕ × ℕ). e.0) heap.registered) place p (subst (λ (xs : List ℕ). IsTrue (is_in p xs)) (map-append (λ (e : ℕ × ℕ). e.0) heap.registered ((place, queue) ∷ [])) t)) [
          | inl e ↦ (let P : ℕ → Type 0 = λ k. IsTrue (is_in k s.places) in subst P (sym e) here.there)
          | inr u ↦ s.finalizers.registered_are.there p u
        ];
      };
      chosen_are = s.finalizers.chosen_are;
      queues_are = s.finalizers.queues_are;
      births_are = ap₂ (λ (f : NamedFinals) (b : ℕ). with_final f b queue) s.finalizers.births_are (sym (s.words.objects.named place here.there));
    }) s.links)

first-named : (name : ℕ → ℕ) (queues : Table (List ℕ)) (queue : ℕ) (found : Option (List ℕ))
    → named_queues name (without_first queues queue found) ≡ without_first (named_queues name queues) queue (option_map (map name) found)
first-named name queues queue None = refl
first-named name queues queue (Some []) = refl
first-named name queues queue (Some (b ∷ [])) = without-told name queue queues
first-named name queues queue (Some (b ∷ (c ∷ rest))) = with-told name queue (c ∷ rest) queues

stored-named : {heap : HeapParts} {store : Store} (queue : ℕ) (s : PartsStandFor heap store) → value_at store.queues queue ≡ option_map (map s.name) (value_at heap.queues queue)
stored-named {heap = heap} queue s =
    ap (λ (qs : Table (List ℕ)). value_at qs queue) s.finalizers.queues_are.named ∙ value-told s.name heap.queues queue

-- what comes next from a queue is there
pub next_there : (heap : HeapParts) (store : Store) (queue : ℕ) (s : PartsStandFor heap store) → (p : ℕ) → next_place heap queue ≡ Some p → IsTrue (is_in p s.places)
next_there heap store queue s p e = s.finalizers.queues_are.there p (first-queued heap.queues queue p (value_at heap.queues queue) refl e)

-- and goes by its name in the store
pub next_named : (heap : HeapParts) (store : Store) (queue : ℕ) (s : PartsStandFor heap store) → next_of store queue ≡ option_map s.name (next_place heap queue)
next_named heap store queue s = ap first_of (stored-named queue s) ∙ first-is s.name (value_at heap.queues queue)

-- the heap whose slot got the first of a queue
abbrev pub with_next : HeapParts → ℕ → ℕ → HeapParts
with_next heap to queue = with_slot (without_next heap queue) to (place_or_nil (next_place heap queue))

-- A slot gets the first of a queue, or becomes empty.
pub next_stands : (heap : HeapParts) (store : Store) (to queue : ℕ) → PartsStandFor heap store → PartsStandFor (with_next heap to queue) (take_next store to queue)
next_stands heap store to queue s =
    let found : Option (List ℕ) = value_at heap.queues queue in
    let queues_are = s.finalizers.queues_are in
    let stored = stored-named queue s in
    let new : Store = take_next store to queue in
    let next_is = next_named heap store queue s in
    let change : RootChange heap.setup.settings store new = next_change to queue s.sound in
    rooted_stands s refl change refl
    (subst (λ (b : Option ℕ). HoldsSlots (slice_set heap.slots to (place_or_nil (first_of found))) s.places s.name heap.setup.settings.roots (slice_set store.slots to b)) (sym next_is)
    (got s (first_of found) (next_there heap store queue s)))
    (record {
      registered_are = s.finalizers.registered_are;
      chosen_are = s.finalizers.chosen_are;
      queues_are = record {
        named = ap₂ (λ (qs : Table (List ℕ)) (f : Option (List ℕ)). without_first qs queue f) queues_are.named stored ∙ sym (first-named s.name heap.queues queue found);
        there = λ p t. queues_are.there p (first-less heap.queues queue p found refl t);
      };
      births_are = ap (λ (f : NamedFinals). less_final f queue) s.finalizers.births_are;
    }) s.links
  where
    got : (s : PartsStandFor heap store) (first : Option ℕ) → ((p : ℕ) → first ≡ Some p → IsTrue (is_in p s.places))
        → HoldsSlots (slice_set heap.slots to (place_or_nil first)) s.places s.name heap.setup.settings.roots (slice_set store.slots to (option_map s.name first))
    got s None there = slots-set to 0 s.slots (inl refl)
    got s (Some p) there =
        let above = s.words.objects.above p (there p refl) in
        subst (λ (b : Option ℕ). HoldsSlots (slice_set heap.slots to p) s.places s.name heap.setup.settings.roots (slice_set store.slots to b))
        (renamed-full s.name p (λ z. absurd (let no : ⊥ = omega (arith, above, z) in no))) (slots-set to p s.slots (inr (there p refl)))
