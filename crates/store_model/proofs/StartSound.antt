-- The start of marking leaves a sound store.
use Rattle.std.proofs.Common.{◌≡◌, ℕ, ◌<◌, Bool, true, false, IsTrue, List, [], ◌∷◌, ◌++◌, map, refl, ap, subst, inl, inr}
use Rattle.std.specs.Prelude.{IsFalse, not, ◌&&◌, filter, filter_map}
use Rattle.std.proofs.lemmas.Bool.{cases_Bool}
use Rattle.object_model.proofs.Members.{is_in-nil, in-left, in-right, and_first, and_second, and_both, not_both, not-true}
use Rattle.object_model.specs.declared.settings.Settings.{Settings}
use Rattle.text_model.specs.declared.line.Phase.{Phase}
use Rattle.text_model.specs.declared.line.Phase.TheVariants.{Scanning, Marking}
use Rattle.object_model.specs.Object.{Object, object_at}
use Rattle.store_model.specs.Store.{Store, is_settled}
use Rattle.object_model.specs.Sets.{is_in}
use Rattle.store_model.specs.Roots.{pinned_births, is_kept, roots_of, registered_births, referents_in}
use Rattle.store_model.specs.Reach.{Tells, births_where, refers, IsReached, IsRetained}
use Rattle.store_model.specs.Sound.{IsSound, IsPhaseSound}
use Rattle.store_model.specs.MinorCollection.{AreAllPinned}
use Rattle.store_model.proofs.Rounds.{LeadsTo-step, LeadsTo-start}
use Rattle.store_model.proofs.After.{birth_where, in_births_where}

-- the store where marking starts
abbrev pub started_marking : Store → (ℕ → Bool) → (ℕ → Bool) → Store
started_marking store reached retained = record store {
  phase = Marking;
  visited = [];
  unreached = births_where store.kept (λ x. is_settled store.settled x && not (reached x));
  doomed = births_where store.kept (λ x. not (retained x));
}

module _ (settings : Settings) (store : Store) (sound : IsSound settings store) (pinned : AreAllPinned store) (scanning : store.phase ≡ Scanning)
    (reached : ℕ → Bool) (tells_reached : Tells reached (IsReached store)) (retained : ℕ → Bool) (tells_retained : Tells retained (IsRetained store)) where
  abbrev new : Store
  new = started_marking store reached retained

  root-reached : (x : ℕ) → IsTrue (is_in x (roots_of store)) → reached x ≡ true
  root-reached x t = (tells_reached x).1 (LeadsTo-start (λ z. is_in z (roots_of store) && is_kept store.kept z) (refers store.kept) x
      (and_both (is_in x (roots_of store)) (is_kept store.kept x) t (sound.roots x t)))

  start-retained : (x : ℕ) → IsTrue (is_in x (roots_of store ++ registered_births store)) → IsTrue (is_kept store.kept x) → retained x ≡ true
  start-retained x t k = (tells_retained x).1 (LeadsTo-start (λ z. is_in z (roots_of store ++ registered_births store) && is_kept store.kept z) (refers store.kept) x
      (and_both (is_in x (roots_of store ++ registered_births store)) (is_kept store.kept x) t k))

  step-of : (x y : ℕ) → IsTrue (is_in y (referents_in (object_at store.kept x))) → IsTrue (refers store.kept x y)
  step-of x y t = and_both (is_in y (referents_in (object_at store.kept x))) (is_kept store.kept y) t (sound.fields.references x y t)

  -- what is reached is not unreached, and what is retained is not doomed
  pub reached_out : (x : ℕ) → reached x ≡ true → IsFalse (is_in x new.unreached)
  reached_out x r = elim (cases_Bool (is_in x new.unreached)) [
    | inl t ↦ absurd (
        let part = birth_where store.kept (λ y. is_settled store.settled y && not (reached y)) x t in
        let out : reached x ≡ false = not-true (reached x) (and_second (is_settled store.settled x) (not (reached x)) part.0) in let no : ⊥ = cc in no)
    | inr n ↦ n
  ]

  retained-out : (x : ℕ) → retained x ≡ true → IsFalse (is_in x new.doomed)
  retained-out x r = elim (cases_Bool (is_in x new.doomed)) [
    | inl t ↦ absurd (
        let part = birth_where store.kept (λ y. not (retained y)) x t in
        let out : retained x ≡ false = not-true (retained x) part.0 in let no : ⊥ = cc in no)
    | inr n ↦ n
  ]

  pinned-root : (x : ℕ) → IsTrue (is_in x (pinned_births store)) → IsTrue (is_in x (roots_of store))
  pinned-root x t = in-right x (filter_map (λ slot. slot) store.slots) _ (in-left x (pinned_births store) _ t)

  -- a kept object that is not unreached is reached
  reached-in : (x : ℕ) → IsTrue (is_kept store.kept x) → IsFalse (is_in x new.unreached) → reached x ≡ true
  reached-in x k out = elim (cases_Bool (reached x)) [
    | inl r ↦ r
    | inr n ↦ elim (cases_Bool (is_settled store.settled x)) [
      | inl settled ↦ absurd (not_both (is_in x new.unreached) (in_births_where store.kept (λ y. is_settled store.settled y && not (reached y)) x
          (and_both (is_settled store.settled x) (not (reached x)) settled (ap not n)) k) out)
      | inr unsettled ↦ absurd (let r : reached x ≡ true = root-reached x (pinned-root x (pinned x k unsettled)) in let no : ⊥ = cc in no)
    ]
  ]

  retained-in : (x : ℕ) → IsTrue (is_kept store.kept x) → IsFalse (is_in x new.doomed) → retained x ≡ true
  retained-in x k out = elim (cases_Bool (retained x)) [
    | inl r ↦ r
    | inr n ↦ absurd (not_both (is_in x new.doomed) (in_births_where store.kept (λ y. not (retained y)) x (ap not n) k) out)
  ]

  born : (x : ℕ) (test : ℕ → Bool) → IsTrue (is_in x (births_where store.kept test)) → x < store.next
  born x test t = (sound.births.born x (in-left x (map (λ (object : Object). object.birth) store.kept) _ (kept-in x store.kept (birth_where store.kept test x t).1))).1
    where
      kept-in : (x : ℕ) (kept : List Object) → IsTrue (is_kept kept x) → IsTrue (is_in x (map (λ (object : Object). object.birth) kept))
      kept-in x kept t = subst (λ (os : List Object). IsTrue (is_in x (map (λ (object : Object). object.birth) os))) (all kept) (in_births_where kept (λ y. true) x refl t)
        where
          all : (kept : List Object) → filter (λ (o : Object). true) kept ≡ kept
          all [] = refl
          all (o ∷ kept) = ap (λ (os : List Object). o ∷ os) (all kept)

  phase-is : IsPhaseSound Scanning settings.sweep store
  phase-is = subst (λ (p : Phase). IsPhaseSound p settings.sweep store) scanning sound.phase

  doomed-unreached : (x : ℕ) → IsTrue (is_in x new.doomed) → IsTrue (is_in x new.unreached)
  doomed-unreached x t =
      let part = birth_where store.kept (λ y. not (retained y)) x t in
      let lost : retained x ≡ false = not-true (retained x) part.0 in
      elim (cases_Bool (is_in x new.unreached)) [
        | inl u ↦ u
        | inr out ↦ absurd (
            let r : reached x ≡ true = reached-in x part.1 out in
            let path : IsReached store x = (tells_reached x).0 r in
            let start : IsTrue (is_in path.0 (roots_of store ++ registered_births store) && is_kept store.kept path.0) =
            and_both (is_in path.0 (roots_of store ++ registered_births store)) (is_kept store.kept path.0)
            (in-left path.0 (roots_of store) (registered_births store) (and_first (is_in path.0 (roots_of store)) (is_kept store.kept path.0) path.1))
            (and_second (is_in path.0 (roots_of store)) (is_kept store.kept path.0) path.1) in
            let kept_back : retained x ≡ true = (tells_retained x).1 (path.0, start, path.2, path.3) in
            let no : ⊥ = cc in no)
      ]

  pub start_sound : IsSound settings new
  start_sound = record {
    fields = sound.fields;
    settled = sound.settled;
    roots = sound.roots;
    registered = sound.registered;
    pins = sound.pins;
    waiting = sound.waiting;
    queues_rise = sound.queues_rise;
    once = sound.once;
    roots_reached = λ x t. reached_out x (root-reached x t);
    unreached_cut_off = λ x k out y t. reached_out y ((tells_reached y).1 (LeadsTo-step (λ z. is_in z (roots_of store) && is_kept store.kept z) (refers store.kept) x y ((tells_reached x).0 (reached-in x k out)) (step-of x y t)));
    unreached_born = λ x t. born x _ t;
    roots_retained = λ x t. retained-out x (start-retained x (in-left x (roots_of store) (registered_births store) t) (sound.roots x t));
    registered_retained = λ x t. retained-out x (start-retained x (in-right x (roots_of store) (registered_births store) t) (sound.registered x t));
    doomed_cut_off = λ x k out y t. retained-out y ((tells_retained y).1 (LeadsTo-step (λ z. is_in z (roots_of store ++ registered_births store) && is_kept store.kept z) (refers store.kept) x y ((tells_retained x).0 (retained-in x k out)) (step-of x y t)));
    doomed_born = λ x t. born x _ t;
    phase = (phase-is.0, phase-is.1, record { visited_settled = λ x t. absurd (is_in-nil x t); visited_reached = λ x t. absurd (is_in-nil x t); doomed_unreached = doomed-unreached });
    links = sound.links;
    births = sound.births;
  }
