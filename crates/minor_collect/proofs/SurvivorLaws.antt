-- Where nothing is owed or to be opened, each object that survives by itself is found.
use Rattle.std.proofs.Common.{◌≡◌, ◌≢◌, ℕ, suc, ◌+◌, Bool, true, false, IsTrue, List, [], ◌∷◌, map, Option, Some, None, slice_get, refl, sym, ap, ◌∙◌, subst, inl, inr, arith}
use Rattle.std.specs.Prelude.{◌&&◌, ◌||◌, not, filter_map, flat_map}
use Rattle.std.proofs.lemmas.Bool.{cases_Bool}
use Rattle.std.proofs.lemmas.Bool.Decides.{eqb_tells}
use Rattle.object_model.specs.Object.{object_at}
use Rattle.object_model.specs.Fields.{refs_of}
use Rattle.object_model.specs.ObjectWords.{renamed}
use Rattle.object_model.specs.Sets.{is_in}
use Rattle.object_model.proofs.Members.{is_in-cases, is_in-nil, and_first, and_second, or_cases, in-either, in-left, in-right}
use Rattle.store_model.specs.Structs.{forced_objects}
use Rattle.store_model.specs.Roots.{is_kept, roots_of, pinned_births, registered_births}
use Rattle.store_model.specs.Sound.{waiting_births}
use Rattle.store_model.specs.Reach.{is_root, is_registered}
use Rattle.store_model.specs.MarkingOrder.{IsItem}
use Rattle.store_model.specs.MinorCollection.{is_unsettled}
use Rattle.heap_parts.specs.Parts.{HeapParts, pinned_places}
use Rattle.heap_parts.specs.Places.{is_young, old_places}
use Rattle.birth_laws.proofs.BirthNames.{entries-names}
use Rattle.frame_laws.proofs.PlaceLaws.{old-is_in, named-by}
use Rattle.minor_collect.specs.declared.work.Moving.{Moving}
use Rattle.minor_collect.specs.Entries.{has_remembered_referrer, referents_where}
use Rattle.minor_collect.specs.Midway.{OwesNone, IsDone, is_lasting}
use Rattle.minor_collect.specs.Calls.{Stage, Spot, Standing, Grows, is_entry_at, spot_begins, remembered_at}
use Rattle.minor_collect.proofs.EndStands.{item-word}
use Rattle.minor_collect.proofs.Finished.{at-number}
use Rattle.minor_collect.proofs.ItemSteps.{old_stays}
use Rattle.minor_collect.proofs.SameSurvivors.{one-of}

-- an item of those that pass, by its number
pub record PassesAt (test : ℕ → Bool) (k : ℕ) (refs : List (Option ℕ)) (y : ℕ) : Type 0 where
  pub item : ℕ
  pub is : slice_get refs item ≡ Some (Some y)
  pub passes : test (k + item) ≡ true

where-item : (test : ℕ → Bool) (k : ℕ) (refs : List (Option ℕ)) (y : ℕ) → IsTrue (is_in y (referents_where test k refs)) → PassesAt test k refs y
where-item test k [] y t = absurd (is_in-nil y t)
where-item test k (None ∷ refs) y t = let more = where-item test (k + 1) refs y t in record { item = suc more.item; is = more.is; passes = ap test (let n : k + suc more.item ≡ k + 1 + more.item = omega arith in n) ∙ more.passes }
where-item test k (Some x ∷ refs) y t = elim (cases_Bool (test k)) [
  | inl p ↦ elim (is_in-cases y x (referents_where test (k + 1) refs) (rw p at t)) [
    | inl e ↦ record { item = 0; is = ap (λ (z : ℕ). Some (Some z)) (sym e); passes = ap test (let n : k + 0 ≡ k = omega arith in n) ∙ p }
    | inr u ↦ later (where-item test (k + 1) refs y u)
  ]
  | inr p ↦ later (where-item test (k + 1) refs y (rw p at t))
]
  where
    later : PassesAt test (k + 1) refs y → PassesAt test k (Some x ∷ refs) y
    later more = record { item = suc more.item; is = more.is; passes = ap test (let n : k + suc more.item ≡ k + 1 + more.item = omega arith in n) ∙ more.passes }

-- a slot that holds something
pub record HeldSlot (name : ℕ → ℕ) (slots : List ℕ) (x : ℕ) : Type 0 where
  pub number : ℕ
  pub place : ℕ
  pub is : slice_get slots number ≡ Some place
  pub some : place ≢ 0
  pub named : name place ≡ x

held-slot : (name : ℕ → ℕ) (slots : List ℕ) (x : ℕ) → IsTrue (is_in x (filter_map (λ (slot : Option ℕ). slot) (map (renamed name) slots))) → HeldSlot name slots x
held-slot name [] x t = absurd (is_in-nil x t)
held-slot name (p ∷ slots) x t = elim (eqb_tells p 0) [
  | inl e ↦ later (held-slot name slots x (let none : renamed name p ≡ None = rw e.0 refl in subst (λ (o : Option ℕ). IsTrue (is_in x (filter_map (λ (slot : Option ℕ). slot) (o ∷ map (renamed name) slots)))) none t))
  | inr ne ↦
      let some : renamed name p ≡ Some (name p) = rw ne.0 refl in
      elim (is_in-cases x (name p) (filter_map (λ (slot : Option ℕ). slot) (map (renamed name) slots)) (subst (λ (o : Option ℕ). IsTrue (is_in x (filter_map (λ (slot : Option ℕ). slot) (o ∷ map (renamed name) slots)))) some t)) [
        | inl e ↦ record { number = 0; place = p; is = refl; some = ne.1; named = sym e }
        | inr u ↦ later (held-slot name slots x u)
      ]
]
  where
    later : HeldSlot name slots x → HeldSlot name (p ∷ slots) x
    later h = record { number = suc h.number; place = h.place; is = h.is; some = h.some; named = h.named }

no-both : (b : Bool) → IsTrue b → b ≡ false → ⊥
no-both true t e = let no : ⊥ = cc in no
no-both false t e = let no : ⊥ = cc in no

module _ {stage : Stage} {now : HeapParts} {moving : Moving} {spot : Spot} (s : Standing stage now moving spot) (grows : Grows stage (spot_begins stage) spot) (none : OwesNone spot.owes) (todo : spot.todo ≡ [])
    (forced : (x : ℕ) → IsTrue (is_in x (forced_objects stage.store.structs)) → IsTrue (is_unsettled stage.store x) → IsTrue (is_in x spot.placing.found)) where
  abbrev name : ℕ → ℕ
  name = spot.placing.name

  lasting-found : (z x : ℕ) → name z ≡ x → IsTrue (is_in z spot.placing.places) → IsTrue (is_lasting (pinned_places stage.start) z) → IsTrue (is_unsettled stage.store x) → IsTrue (is_in x spot.placing.found)
  lasting-found z x e t l u = subst (λ (k : ℕ). IsTrue (is_in k spot.placing.found)) e (s.middle.mid.follows.lasts z t l (subst (λ (k : ℕ). IsTrue (is_unsettled stage.store k)) (sym e) u))

  done-found : (q z x : ℕ) → z ≢ 0 → name z ≡ x → IsDone (pinned_places stage.start) spot.placing.places spot.held q z → IsTrue (is_unsettled stage.store x) → IsTrue (is_in x spot.placing.found)
  done-found q z x ne e (inl zero_is) u = absurd (ne zero_is)
  done-found q z x ne e (inr (inl old)) u = lasting-found z x e old.0 (rw old.1 refl) u
  done-found q z x ne e (inr (inr pin)) u = lasting-found z x e pin.0 (lasts (is_young z) (is_in z (pinned_places stage.start)) pin.1.0) u
    where
      lasts : (young pinned : Bool) → IsTrue pinned → IsTrue (not young || pinned)
      lasts true pinned t = t
      lasts false pinned t = refl

  from-slot : (x : ℕ) → IsTrue (is_unsettled stage.store x) → IsTrue (is_in x (filter_map (λ (slot : Option ℕ). slot) stage.store.slots)) → IsTrue (is_in x spot.placing.found)
  from-slot x u t =
      let h = held-slot name now.slots x (subst (λ (stored : List (Option ℕ)). IsTrue (is_in x (filter_map (λ (slot : Option ℕ). slot) stored))) s.middle.mid.slots.named t) in
      elim (s.lists.slot h.number h.place h.is) [
        | inl owed ↦ absurd (no-both (spot.owes.slots h.number) owed (none.slots h.number))
        | inr (inl z) ↦ absurd (h.some z)
        | inr (inr l) ↦ lasting-found h.place x h.named l.0 l.1 u
      ]

  -- what waits for its finalizer is settled
  from-waiting : (x : ℕ) → IsTrue (is_unsettled stage.store x) → IsTrue (is_in x (waiting_births stage.store)) → ⊥
  from-waiting x u t = settled-not (is_kept stage.store.kept x) (is_in x stage.store.settled) u (stage.stands.sound.waiting x t)
    where
      settled-not : (kept settled : Bool) → IsTrue (kept && not settled) → IsTrue settled → ⊥
      settled-not true true a b = let no : ⊥ = cc in no
      settled-not true false a b = let no : ⊥ = cc in no
      settled-not false settled a b = let no : ⊥ = cc in no

  from-root : (x : ℕ) → IsTrue (is_unsettled stage.store x) → IsTrue (is_in x (roots_of stage.store)) → IsTrue (is_in x spot.placing.found)
  from-root x u t = elim (in-either x (filter_map (λ (slot : Option ℕ). slot) stage.store.slots) _ t) [
    | inl a ↦ from-slot x u a
    | inr a ↦ elim (in-either x (pinned_births stage.store) _ a) [
      | inl b ↦ grows.found x b
      | inr b ↦ elim (in-either x (map (λ (entry : ℕ × ℕ). entry.0) stage.store.chosen) _ b) [
        | inl c ↦ absurd (from-waiting x u (in-left x (map (λ (entry : ℕ × ℕ). entry.0) stage.store.chosen) (flat_map (λ (entry : ℕ × List ℕ). entry.1) stage.store.queues) c))
        | inr c ↦ elim (in-either x (flat_map (λ (entry : ℕ × List ℕ). entry.1) stage.store.queues) _ c) [
          | inl d ↦ absurd (from-waiting x u (in-right x (map (λ (entry : ℕ × ℕ). entry.0) stage.store.chosen) (flat_map (λ (entry : ℕ × List ℕ). entry.1) stage.store.queues) d))
          | inr d ↦ forced x d u
        ]
      ]
    ]
  ]

  from-registered : (x : ℕ) → IsTrue (is_unsettled stage.store x) → IsTrue (is_in x (registered_births stage.store)) → IsTrue (is_in x spot.placing.found)
  from-registered x u t =
      let births : registered_births stage.store ≡ map name (map (λ (entry : ℕ × ℕ). entry.0) now.registered) = ap (map (λ (entry : ℕ × ℕ). entry.0)) s.middle.mid.registered_are.named ∙ entries-names name now.registered in
      let n = named-by name x (map (λ (entry : ℕ × ℕ). entry.0) now.registered) (subst (λ (xs : List ℕ). IsTrue (is_in x xs)) births t) in
      let at = at-number (λ (entry : ℕ × ℕ). entry.0) now.registered n.place n.there in
      elim (s.lists.entry at.number at.entry at.is) [
        | inl owed ↦ absurd (no-both (spot.owes.registered at.number) owed (none.registered at.number))
        | inr (inl z) ↦ absurd (let above = s.middle.mid.words.moving.above n.place (s.middle.mid.registered_are.there n.place n.there) in omega (arith, above, z, at.reads))
        | inr (inr l) ↦ lasting-found at.entry.0 x (ap name at.reads ∙ sym n.is) l.0 l.1 u
      ]

  from-held : (x : ℕ) → IsTrue (is_unsettled stage.store x) → IsTrue (has_remembered_referrer stage.store (remembered_at stage) x) → IsTrue (is_in x spot.placing.found)
  from-held x u t =
      let o = one-of (λ (b : ℕ). is_in x (referents_where (remembered_at stage b) 0 (refs_of (object_at stage.store.kept b)))) stage.store.settled t in
      let b : ℕ = o.one in
      let at = where-item (remembered_at stage b) 0 (refs_of (object_at stage.store.kept b)) x o.holds in
      let n = named-by stage.stands.name b (old_places stage.stands.places) (subst (λ (xs : List ℕ). IsTrue (is_in b xs)) stage.stands.births.settled_are o.there) in
      let q : ℕ = n.place in
      let old = old_stays q grows n.there in
      let place = old-is_in spot.placing.places q old in
      let name-q : name q ≡ b = grows.names q (old-is_in stage.stands.places q n.there).0 ∙ sym n.is in
      let item : IsItem stage.store.kept (name q) at.item x = subst (λ (k : ℕ). IsItem stage.store.kept k at.item x) (sym name-q) at.is in
      let word = item-word q at.item x s.middle.mid.words.objects place.0 item in
      let held : remembered_at stage (name q) at.item ≡ true = ap (λ (k : ℕ). remembered_at stage k at.item) name-q ∙ (ap (remembered_at stage b) (let e : at.item ≡ 0 + at.item = omega arith in e) ∙ at.passes) in
      elim (s.middle.mid.follows.looked q at.item place.0 (rw place.1 refl) word.within) [
        | inl g ↦ absurd (is_in-nil q (subst (λ (l : List ℕ). IsTrue (is_in q l)) todo g))
        | inr (inl owed) ↦ absurd (no-both (spot.owes.items q at.item) owed (none.items q at.item))
        | inr (inr (inl forgot)) ↦ absurd (no-both (remembered_at stage (name q) at.item) held forgot.1)
        | inr (inr (inr d)) ↦ done-found q _ x word.some word.named d u
      ]

  -- each that survives by itself is found
  pub entries_found : (x : ℕ) → IsTrue (is_entry_at stage x) → IsTrue (is_in x spot.placing.found)
  entries_found x t =
      let u = and_first (is_unsettled stage.store x) _ t in
      elim (or_cases (is_root stage.store x) _ (and_second (is_unsettled stage.store x) _ t)) [
        | inl root ↦ from-root x u root
        | inr rest ↦ elim (or_cases (is_registered stage.store x) _ rest) [
          | inl r ↦ from-registered x u r
          | inr h ↦ from-held x u h
        ]
      ]
