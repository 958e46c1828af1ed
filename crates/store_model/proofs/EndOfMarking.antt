-- The end of marking, over the store: what stays, and what a doomed object is.
use Rattle.std.proofs.Common.{◌≡◌, ℕ, ◌⊎◌, Bool, true, false, IsTrue, List, [], Option, Some, None, refl, subst, inl, inr}
use Rattle.std.specs.Prelude.{IsFalse, not, ◌&&◌, is_some, filter_map}
use Rattle.std.proofs.lemmas.Bool.{cases_Bool}
use Rattle.object_model.proofs.Members.{is_in-nil, in-left, in-right, and_first, and_second, and_both, not_both}
use Rattle.object_model.specs.declared.settings.Settings.{Settings}
use Rattle.object_model.specs.Object.{Object, object_at}
use Rattle.store_model.specs.Store.{Store, is_settled}
use Rattle.object_model.specs.Sets.{is_in}
use Rattle.object_model.specs.Fields.{refs_of}
use Rattle.store_model.specs.Roots.{pinned_births, is_kept, roots_of, registered_births, referents_in}
use Rattle.store_model.specs.Reach.{Tells, refers, is_registered, IsReached}
use Rattle.store_model.specs.Marking.{IsMarked, IsSaved, is_white, is_dying, is_condemned}
use Rattle.store_model.specs.Sound.{IsSound, AreNoneOf}
use Rattle.store_model.specs.MinorCollection.{AreAllPinned}
use Rattle.store_model.proofs.Rounds.{LeadsTo-start, LeadsTo-step, LeadsTo-least}

-- what holds of a condemned object by cases
condemned-no : (white saved : Bool) → (white ≡ false) ⊎ (saved ≡ true) → (white && not saved) ≡ false
condemned-no white saved (inl e) = rw e refl
condemned-no true saved (inr e) = rw e refl
condemned-no false saved (inr e) = refl

saved-or : (white saved : Bool) → (white && not saved) ≡ false → white ≡ true → saved ≡ true
saved-or true true e t = refl
saved-or true false e t = absurd (let no : ⊥ = cc in no)
saved-or false saved e t = absurd (let no : ⊥ = cc in no)

white-no : (settled visited : Bool) → (settled ≡ false) ⊎ (visited ≡ true) → (settled && not visited) ≡ false
white-no settled visited (inl e) = rw e refl
white-no true visited (inr e) = rw e refl
white-no false visited (inr e) = refl

white-yes : (settled visited : Bool) → settled ≡ true → visited ≡ false → (settled && not visited) ≡ true
white-yes true false s v = refl
white-yes true true s v = absurd (let no : ⊥ = cc in no)
white-yes false visited s v = absurd (let no : ⊥ = cc in no)

pub referents-some : (o : Option Object) (y : ℕ) → IsTrue (is_in y (referents_in o)) → refs_of o ≡ [] → ⊥
referents-some None y t e = let no : ⊥ = cc in no
referents-some (Some object) y t e = let none : IsTrue (is_in y []) = subst (λ (rs : List (Option ℕ)). IsTrue (is_in y (filter_map (λ r. r) rs))) e t in is_in-nil y none

pub kept_of : (kept : List Object) (x y : ℕ) → IsTrue (is_in y (referents_in (object_at kept x))) → IsTrue (is_kept kept x)
kept_of kept x y t = go (object_at kept x) t
  where
    go : (o : Option Object) → IsTrue (is_in y (referents_in o)) → IsTrue (is_some o)
    go None t = absurd (is_in-nil y t)
    go (Some o) t = refl

module _ (settings : Settings) (store : Store) (sound : IsSound settings store) (pinned : AreAllPinned store) (marked : IsMarked store)
    (saved : ℕ → Bool) (tells : Tells saved (IsSaved store)) where
  abbrev gone : ℕ → Bool
  gone = is_condemned store saved

  -- an unsettled object stays, and so does a visited one, and one that is saved
  pub unsettled_stays : (x : ℕ) → is_settled store.settled x ≡ false → gone x ≡ false
  unsettled_stays x e = condemned-no (is_white store x) (saved x) (inl (white-no (is_settled store.settled x) (is_in x store.visited) (inl e)))

  pub visited_stays : (x : ℕ) → IsTrue (is_in x store.visited) → gone x ≡ false
  visited_stays x e = condemned-no (is_white store x) (saved x) (inl (white-no (is_settled store.settled x) (is_in x store.visited) (inr e)))

  pub saved_stays : (x : ℕ) → IsSaved store x → gone x ≡ false
  saved_stays x l = condemned-no (is_white store x) (saved x) (inr ((tells x).1 l))

  -- what is not white stays
  pub black_stays : (x : ℕ) → is_white store x ≡ false → gone x ≡ false
  black_stays x e = condemned-no (is_white store x) (saved x) (inl e)

  -- what an object that stays refers to stays
  pub stays_refers : (x y : ℕ) → gone x ≡ false → IsTrue (is_in y (referents_in (object_at store.kept x))) → gone y ≡ false
  stays_refers x y stays t =
      let there : IsTrue (is_kept store.kept y) = sound.fields.references x y t in
      let step : IsTrue (refers store.kept x y) = and_both (is_in y (referents_in (object_at store.kept x))) (is_kept store.kept y) t there in
      elim (cases_Bool (is_settled store.settled x)) [
        | inl settled ↦ elim (cases_Bool (is_in x store.visited)) [
          | inl visited ↦ elim (cases_Bool (is_settled store.settled y)) [
            | inl s ↦ visited_stays y (marked.closed x y visited step s)
            | inr u ↦ unsettled_stays y u
          ]
          | inr not_visited ↦
              let white : is_white store x ≡ true = white-yes (is_settled store.settled x) (is_in x store.visited) settled not_visited in
              saved_stays y (LeadsTo-step (is_dying store) (refers store.kept) x y ((tells x).0 (saved-or (is_white store x) (saved x) stays white)) step)
        ]
        | inr unsettled ↦ absurd (referents-some (object_at store.kept x) y t (sound.pins.no_references x (pinned x (kept_of store.kept x y t) unsettled)))
      ]

  -- a root stays, and a registered object
  pub root_stays : (x : ℕ) → IsTrue (is_in x (roots_of store)) → gone x ≡ false
  root_stays x t =
      let reached : IsReached store x = LeadsTo-start (λ z. is_in z (roots_of store) && is_kept store.kept z) (refers store.kept) x
      (and_both (is_in x (roots_of store)) (is_kept store.kept x) t (sound.roots x t)) in
      elim (cases_Bool (is_settled store.settled x)) [
        | inl s ↦ visited_stays x (marked.reached x reached s)
        | inr u ↦ unsettled_stays x u
      ]

  pub registered_stays : (x : ℕ) → IsTrue (is_in x (registered_births store)) → gone x ≡ false
  registered_stays x t = elim (cases_Bool (is_white store x)) [
    | inl white ↦ saved_stays x (LeadsTo-start (is_dying store) (refers store.kept) x (and_both (is_registered store x) (is_white store x) t white))
    | inr black ↦ black_stays x black
  ]

  -- what is saved was not doomed
  saved-not-doomed : (x : ℕ) → IsSaved store x → IsFalse (is_in x store.doomed)
  saved-not-doomed x l = (LeadsTo-least (is_dying store) (refers store.kept) (λ y. IsTrue (is_kept store.kept y) × IsFalse (is_in y store.doomed))
      (λ h d. let r : IsTrue (is_registered store h) = and_first (is_registered store h) (is_white store h) d in (sound.registered h r, sound.registered_retained h r))
      (λ h y p r. (
        and_second (is_in y (referents_in (object_at store.kept h))) (is_kept store.kept y) r,
        sound.doomed_cut_off h p.0 p.1 y (and_first (is_in y (referents_in (object_at store.kept h))) (is_kept store.kept y) r),
      )) x l).1

  pinned-root : (x : ℕ) → IsTrue (is_in x (pinned_births store)) → IsFalse (is_in x store.doomed)
  pinned-root x t = sound.roots_retained x (in-right x (filter_map (λ slot. slot) store.slots) _ (in-left x (pinned_births store) _ t))

  -- a kept doomed object is condemned
  pub doomed_gone : (x : ℕ) → AreNoneOf store.visited store.unreached → ((y : ℕ) → IsTrue (is_in y store.doomed) → IsTrue (is_in y store.unreached))
      → IsTrue (is_kept store.kept x) → IsTrue (is_in x store.doomed) → gone x ≡ true
  doomed_gone x apart unreached kept doomed =
      let settled : is_settled store.settled x ≡ true = elim (cases_Bool (is_settled store.settled x)) [
        | inl s ↦ s
        | inr u ↦ absurd (not_both (is_in x store.doomed) doomed (pinned-root x (pinned x kept u)))
      ] in
      let unvisited : is_in x store.visited ≡ false = elim (cases_Bool (is_in x store.visited)) [
        | inl v ↦ absurd (not_both (is_in x store.unreached) (unreached x doomed) (apart x v))
        | inr e ↦ e
      ] in
      let unsaved : saved x ≡ false = elim (cases_Bool (saved x)) [
        | inl t ↦ absurd (not_both (is_in x store.doomed) doomed (saved-not-doomed x ((tells x).0 t)))
        | inr e ↦ e
      ] in
      rw (white-yes (is_settled store.settled x) (is_in x store.visited) settled unvisited, unsaved) refl
