-- A collection begins: every survivor by itself may be found, and what was remembered is owed.
use Rattle.std.proofs.Common.{◌≡◌, ℕ, zero, suc, ◌+◌, ◌<◌, true, IsTrue, List, [], ◌∷◌, map, length, Some, slice_get, refl, sym, ap, ◌∙◌, subst, inl, inr, arith}
use Rattle.std.specs.Prelude.{◌==◌, ◌&&◌, nat_lt, is_some}
use Rattle.std.specs.List.{list_any}
use Rattle.std.proofs.lemmas.Bool.{cases_Bool}
use Rattle.std.proofs.lemmas.Bool.Decides.{eqb_tells, nat_tests}
use Rattle.object_model.specs.Object.{Object, object_at}
use Rattle.object_model.specs.Fields.{refs_of}
use Rattle.object_model.specs.ObjectWords.{layout_at}
use Rattle.object_model.specs.Sets.{is_in}
use Rattle.object_model.proofs.Members.{is_in-head, is_in-tail, is_in-nil, is_in-named, filter-member, filter-part, and_first, and_second, and_both, or_second}
use Rattle.store_model.specs.Roots.{is_kept}
use Rattle.store_model.specs.Reach.{is_root, is_registered}
use Rattle.store_model.specs.MinorCollection.{is_unsettled, refers_unsettled}
use Rattle.store_model.proofs.Rounds.{LeadsTo-start}
use Rattle.remember_cards.specs.Remembered.{Held, Remembered, held_places, is_held, is_held_of, holds_item}
use Rattle.heap_parts.specs.Parts.{word_in}
use Rattle.heap_parts.specs.Places.{old_places}
use Rattle.heap_parts.specs.StandsFor.{PartsStandButYoung}
use Rattle.minor_collect.specs.declared.work.Moving.{Moving}
use Rattle.minor_collect.specs.Entries.{has_remembered_referrer, referents_where}
use Rattle.minor_collect.specs.Calls.{Stage, Standing, MayLead, is_entry_at, entries_of, owes_at, spot_begins, remembered_at}
use Rattle.minor_collect.proofs.Begins.{Begins, midway_begins}
use Rattle.minor_collect.proofs.ListSteps.{linked_there}
use Rattle.minor_collect.proofs.SameSurvivors.{item-where, any-of}
use Rattle.minor_collect.proofs.Sizes.{sizes_begin}

kept-birth : (kept : List Object) (x : ℕ) → IsTrue (is_kept kept x) → IsTrue (is_in x (map (λ (o : Object). o.birth) kept))
kept-birth [] x t = absurd (let no : ⊥ = cc in no)
kept-birth (o ∷ kept) x t = elim (eqb_tells x o.birth) [
  | inl e ↦ subst (λ (k : ℕ). IsTrue (is_in k (o.birth ∷ map (λ (y : Object). y.birth) kept))) (sym e.1) (is_in-head o.birth (map (λ (y : Object). y.birth) kept))
  | inr e ↦
      let rest : object_at (o ∷ kept) x ≡ object_at kept x = rw e.0 refl in
      is_in-tail x o.birth (map (λ (y : Object). y.birth) kept) (kept-birth kept x (ap is_some (sym rest) ∙ t))
]

-- what is remembered of a place is so of its name
pub held_name : (r : Remembered) (name : ℕ → ℕ) (q i : ℕ) → IsTrue (is_held r q i) → IsTrue (is_held_of r name (name q) i)
held_name r name q i t = go r.held t
  where
    go : (hs : List Held) → IsTrue (list_any (λ (h : Held). h.place == q && holds_item r.card h i) hs) → IsTrue (list_any (λ (h : Held). name h.place == name q && holds_item r.card h i) hs)
    go [] u = u
    go (h ∷ hs) u = elim (cases_Bool (h.place == q && holds_item r.card h i)) [
      | inl e ↦
          let place : h.place ≡ q = grind (arith, nat_tests, and_first (h.place == q) (holds_item r.card h i) e) in
          let item = and_second (h.place == q) (holds_item r.card h i) e in
          let named : (name h.place == name q) ≡ true = grind (arith, nat_tests, ap name place) in
          rw (named, item) refl
      | inr e ↦ or_second (name h.place == name q && holds_item r.card h i) _ (go hs (rw e at u))
    ]

-- and the other way where names tell places apart
pub held_place : (r : Remembered) (name : ℕ → ℕ) (q i : ℕ) → ((p : ℕ) → IsTrue (is_in p (held_places r)) → name p ≡ name q → p ≡ q) → IsTrue (is_held_of r name (name q) i) → IsTrue (is_held r q i)
held_place r name q i differ t = go r.held differ t
  where
    go : (hs : List Held) → ((p : ℕ) → IsTrue (is_in p (map (λ (h : Held). h.place) hs)) → name p ≡ name q → p ≡ q)
        → IsTrue (list_any (λ (h : Held). name h.place == name q && holds_item r.card h i) hs) → IsTrue (list_any (λ (h : Held). h.place == q && holds_item r.card h i) hs)
    go [] d u = u
    go (h ∷ hs) d u = elim (cases_Bool (name h.place == name q && holds_item r.card h i)) [
      | inl e ↦
          let named : name h.place ≡ name q = grind (arith, nat_tests, and_first (name h.place == name q) (holds_item r.card h i) e) in
          let item = and_second (name h.place == name q) (holds_item r.card h i) e in
          let place : (h.place == q) ≡ true = grind (arith, nat_tests, d h.place (is_in-head h.place (map (λ (k : Held). k.place) hs)) named) in
          rw (place, item) refl
      | inr e ↦ or_second (h.place == q && holds_item r.card h i) _ (go hs (λ p v. d p (is_in-tail p h.place (map (λ (k : Held). k.place) hs) v)) (rw e at u))
    ]

module _ (stage : Stage) where
  abbrev s : PartsStandButYoung stage.start stage.store
  s = stage.stands

  begins : Begins stage.start stage.store stage.stands (entries_of stage) (owes_at stage)
  begins = record {
    all = λ x t. inr (filter-member (is_entry_at stage) (map (λ (o : Object). o.birth) stage.store.kept) x
        (kept-birth stage.store.kept x (and_first (is_kept stage.store.kept x) _ (and_first (is_unsettled stage.store x) _ t))) t);
    only = λ x t un. (filter-part (is_entry_at stage) (map (λ (o : Object). o.birth) stage.store.kept) x t).1;
    items = λ q j t l h. and_both (is_in q (old_places stage.stands.places)) _ t (and_both (nat_lt j (layout_at stage.start.setup.types (word_in stage.start) q).ref_count) _ (grind (arith, nat_tests, l)) h);
  }

  pub standing_begins : (moving : Moving) → moving.objects ≡ 0 → moving.words ≡ 0 → Standing stage stage.start moving (spot_begins stage)
  standing_begins moving objects words = record {
    middle = record { mid = midway_begins stage.stands begins; rest = refl; sizes = sizes_begin stage.stands.words.objects };
    counted = record { objects = objects; words = words };
    lists = record {
      slot = λ k p e. inl (in-range stage.start.slots k p e);
      entry = λ k p e. inl (in-range stage.start.registered k p e);
      link = λ p t. absurd (is_in-nil p t);
    };
    linked = linked_there stage.stands.sound.links.rises stage.stands.links;
    held = λ q t. absurd (is_in-nil q t);
  }
    where
      in-range : {X : Type 0} (xs : List X) (k : ℕ) (x : X) → slice_get xs k ≡ Some x → IsTrue (nat_lt k (length xs))
      in-range xs k x e = grind (arith, nat_tests, within xs k x e)
        where
          within : {X : Type 0} (xs : List X) (k : ℕ) (x : X) → slice_get xs k ≡ Some x → k < length xs
          within [] k x e = absurd (let no : ⊥ = cc in no)
          within (y ∷ xs) zero x e = omega arith
          within (y ∷ xs) (suc k) x e = let more = within xs k x e in omega (arith, more)

  -- what a remembered item refers to may be found
  pub held_may : (q i : ℕ) → IsTrue (is_in q (old_places stage.stands.places)) → IsTrue (is_held stage.start.remembered q i) → MayLead stage (stage.stands.name q) i
  held_may q i t h y item unsettled =
      let b : ℕ = stage.stands.name q in
      let settled : IsTrue (is_in b stage.store.settled) = subst (λ (xs : List ℕ). IsTrue (is_in b xs)) (sym stage.stands.births.settled_are) (is_in-named stage.stands.name q (old_places stage.stands.places) t) in
      let test : remembered_at stage b (0 + i) ≡ true = ap (remembered_at stage b) (let n : 0 + i ≡ i = omega arith in n) ∙ held_name stage.start.remembered stage.stands.name q i h in
      let among : IsTrue (is_in y (referents_where (remembered_at stage b) 0 (refs_of (object_at stage.store.kept b)))) = item-where (remembered_at stage b) 0 (refs_of (object_at stage.store.kept b)) i y item test in
      let referrer : IsTrue (has_remembered_referrer stage.store (remembered_at stage) y) =
      any-of (λ (birth : ℕ). is_in y (referents_where (remembered_at stage birth) 0 (refs_of (object_at stage.store.kept birth)))) stage.store.settled b settled among in
      LeadsTo-start (is_entry_at stage) (refers_unsettled stage.store) y (and_both (is_unsettled stage.store y) _ unsettled
      (or_second (is_root stage.store y) _ (or_second (is_registered stage.store y) _ referrer)))
