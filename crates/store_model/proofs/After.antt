-- The objects that are left where some are gone, and targets of others become nothing.
use Rattle.std.proofs.Common.{◌≡◌, ◌≢◌, ℕ, ◌⊎◌, Bool, true, false, IsTrue, List, [], ◌∷◌, map, Option, Some, None, refl, sym, ap, ◌∙◌, subst, inl, inr}
use Rattle.std.specs.Prelude.{not, ◌==◌, is_some, option_map}
use Rattle.std.proofs.lemmas.Bool.{cases_Bool}
use Rattle.std.proofs.lemmas.Bool.Decides.{eqb_tells}
use Rattle.object_model.proofs.Members.{is_in-head, is_in-tail, is_in-cases, is_in-nil}
use Rattle.object_model.specs.Object.{Object, object_at}
use Rattle.object_model.specs.Sets.{is_in}
use Rattle.object_model.specs.Fields.{refs_of}
use Rattle.store_model.specs.Roots.{is_kept, referents_in, target_in}
use Rattle.store_model.specs.Reach.{objects_where, births_where}
use Rattle.store_model.specs.MinorCollection.{clear_target, left_target}

-- the objects that are left
abbrev pub left_objects : (ℕ → Bool) → (ℕ → Bool) → List Object → List Object
left_objects white gone kept = map (clear_target white) (objects_where kept (λ x. not (gone x)))

module _ (white gone : ℕ → Bool) where
  -- one that stays is found as before, but for its target
  pub object_left : (x : ℕ) → gone x ≡ false → (kept : List Object) → object_at (left_objects white gone kept) x ≡ option_map (clear_target white) (object_at kept x)
  object_left x stays [] = refl
  object_left x stays (o ∷ kept) = go (object_left x stays kept) (gone o.birth) refl
    where
      hit : object_at (left_objects white gone kept) x ≡ option_map (clear_target white) (object_at kept x)
          → object_at (clear_target white o ∷ left_objects white gone kept) x ≡ option_map (clear_target white) (object_at (o ∷ kept) x)
      hit more = elim (cases_Bool (x == o.birth)) [ inl e ↦ rw e refl | inr e ↦ rw e more ]

      go : object_at (left_objects white gone kept) x ≡ option_map (clear_target white) (object_at kept x) → (b : Bool) → gone o.birth ≡ b
          → object_at (left_objects white gone (o ∷ kept)) x ≡ option_map (clear_target white) (object_at (o ∷ kept) x)
      go more false e = rw e (hit more)
      go more true e = rw e (elim (eqb_tells x o.birth) [
        | inl same ↦ absurd (let f : gone x ≡ true = ap gone same.1 ∙ e in let no : ⊥ = cc in no)
        | inr other ↦ rw other.0 more
      ])

  -- one that is found stays
  pub found_stays : (x : ℕ) (kept : List Object) → IsTrue (is_kept (left_objects white gone kept) x) → gone x ≡ false
  found_stays x [] t = absurd (let no : ⊥ = cc in no)
  found_stays x (o ∷ kept) t = go (found_stays x kept) (gone o.birth) refl t
    where
      hit : gone o.birth ≡ false → (IsTrue (is_kept (left_objects white gone kept) x) → gone x ≡ false)
          → IsTrue (is_kept (clear_target white o ∷ left_objects white gone kept) x) → gone x ≡ false
      hit stays more t = elim (eqb_tells x o.birth) [
        | inl same ↦ ap gone same.1 ∙ stays
        | inr other ↦ more (rw other.0 at t)
      ]

      go : (IsTrue (is_kept (left_objects white gone kept) x) → gone x ≡ false) → (b : Bool) → gone o.birth ≡ b → IsTrue (is_kept (left_objects white gone (o ∷ kept)) x) → gone x ≡ false
      go more false e t = hit e more (rw e at t)
      go more true e t = more (rw e at t)

  some-map : (o : Option Object) → is_some (option_map (clear_target white) o) ≡ is_some o
  some-map None = refl
  some-map (Some o) = refl

  referents-map : (o : Option Object) → referents_in (option_map (clear_target white) o) ≡ referents_in o
  referents-map None = refl
  referents-map (Some o) = refl

  refs-map : (o : Option Object) → refs_of (option_map (clear_target white) o) ≡ refs_of o
  refs-map None = refl
  refs-map (Some o) = refl

  target-map : (o : Option Object) → target_in (option_map (clear_target white) o) ≡ left_target white (target_in o)
  target-map None = refl
  target-map (Some o) = refl

  pub kept_left : (x : ℕ) (kept : List Object) → gone x ≡ false → is_kept (left_objects white gone kept) x ≡ is_kept kept x
  kept_left x kept stays = ap (λ (o : Option Object). is_some o) (object_left x stays kept) ∙ some-map (object_at kept x)

  pub refs_left : (x : ℕ) (kept : List Object) → gone x ≡ false → refs_of (object_at (left_objects white gone kept) x) ≡ refs_of (object_at kept x)
  refs_left x kept stays = ap refs_of (object_left x stays kept) ∙ refs-map (object_at kept x)

  pub target_left : (x : ℕ) (kept : List Object) → gone x ≡ false → target_in (object_at (left_objects white gone kept) x) ≡ left_target white (target_in (object_at kept x))
  target_left x kept stays = ap target_in (object_left x stays kept) ∙ target-map (object_at kept x)

  pub referents_left : (x : ℕ) (kept : List Object) → gone x ≡ false → referents_in (object_at (left_objects white gone kept) x) ≡ referents_in (object_at kept x)
  referents_left x kept stays = ap referents_in (object_left x stays kept) ∙ referents-map (object_at kept x)

  kept-from : (o : Option Object) (y : ℕ) → IsTrue (is_in y (referents_in o)) → IsTrue (is_some o)
  kept-from None y t = absurd (is_in-nil y t)
  kept-from (Some o) y t = refl

  -- what is left was kept
  pub was_kept : (x : ℕ) (kept : List Object) → IsTrue (is_kept (left_objects white gone kept) x) → IsTrue (is_kept kept x) × (gone x ≡ false)
  was_kept x kept t = let stays = found_stays x kept t in (sym (kept_left x kept stays) ∙ t, stays)

  -- a reference that is left was there, of an object that stays
  pub was_referent : (x y : ℕ) (kept : List Object) → IsTrue (is_in y (referents_in (object_at (left_objects white gone kept) x)))
      → (gone x ≡ false) × IsTrue (is_in y (referents_in (object_at kept x)))
  was_referent x y kept t =
      let stays = found_stays x kept (kept-from (object_at (left_objects white gone kept) x) y t) in
      (stays, subst (λ (ys : List ℕ). IsTrue (is_in y ys)) (referents_left x kept stays) t)

  target-some : (o : Option Object) (t : ℕ) → target_in o ≡ Some t → IsTrue (is_some o)
  target-some None t e = absurd (let no : ⊥ = cc in no)
  target-some (Some o) t e = refl

  left-target : (u : Option ℕ) (t : ℕ) → left_target white u ≡ Some t → (u ≡ Some t) × (white t ≡ false)
  left-target None t e = absurd (let no : ⊥ = cc in no)
  left-target (Some u) t e = go (white u) refl e
    where
      go : (b : Bool) → white u ≡ b → left_target white (Some u) ≡ Some t → (◌≡◌ {A = Option ℕ} (Some u) (Some t)) × (white t ≡ false)
      go true w e = absurd (let none : left_target white (Some u) ≡ None = rw w refl in let no : ⊥ = cc in no)
      go false w e = let is : Some u ≡ Some t = rw w at e in let same : u ≡ t = cc in (is, ap white (sym same) ∙ w)

  pub was_target : (x t : ℕ) (kept : List Object) → target_in (object_at (left_objects white gone kept) x) ≡ Some t
      → (target_in (object_at kept x) ≡ Some t) × (white t ≡ false)
  was_target x t kept e =
      let stays = found_stays x kept (target-some (object_at (left_objects white gone kept) x) t e) in
      left-target (target_in (object_at kept x)) t (sym (target_left x kept stays) ∙ e)

  pub no_target_left : (x : ℕ) (kept : List Object) → gone x ≡ false → target_in (object_at kept x) ≡ None → target_in (object_at (left_objects white gone kept) x) ≡ None
  no_target_left x kept stays e = target_left x kept stays ∙ ap (left_target white) e

-- births of objects that pass a test
pub birth_where : (kept : List Object) (test : ℕ → Bool) (x : ℕ) → IsTrue (is_in x (births_where kept test)) → (test x ≡ true) × IsTrue (is_kept kept x)
birth_where [] test x t = absurd (is_in-nil x t)
birth_where (o ∷ kept) test x t = go (birth_where kept test x) (test o.birth) refl t
  where
    later : (test x ≡ true) × IsTrue (is_kept kept x) → (test x ≡ true) × IsTrue (is_kept (o ∷ kept) x)
    later more = (more.0, elim (cases_Bool (x == o.birth)) [ inl e ↦ rw e refl | inr e ↦ rw e more.1 ])

    go : (IsTrue (is_in x (births_where kept test)) → (test x ≡ true) × IsTrue (is_kept kept x)) → (b : Bool) → test o.birth ≡ b → IsTrue (is_in x (births_where (o ∷ kept) test))
        → (test x ≡ true) × IsTrue (is_kept (o ∷ kept) x)
    go more false e t = later (more (rw e at t))
    go more true e t = elim (eqb_tells x o.birth) [
      | inl same ↦ (ap test same.1 ∙ e, rw same.0 refl)
      | inr other ↦ elim (is_in-cases x o.birth (births_where kept test) (rw e at t)) [
        | inl is ↦ absurd (other.1 is)
        | inr u ↦ later (more u)
      ]
    ]

pub in_births_where : (kept : List Object) (test : ℕ → Bool) (x : ℕ) → test x ≡ true → IsTrue (is_kept kept x) → IsTrue (is_in x (births_where kept test))
in_births_where [] test x p t = absurd (let no : ⊥ = cc in no)
in_births_where (o ∷ kept) test x p t = go (in_births_where kept test x p) (test o.birth) refl (eqb_tells x o.birth)
  where
    go : (IsTrue (is_kept kept x) → IsTrue (is_in x (births_where kept test))) → (b : Bool) → test o.birth ≡ b
        → (((x == o.birth) ≡ true) × (x ≡ o.birth)) ⊎ (((x == o.birth) ≡ false) × (x ≢ o.birth)) → IsTrue (is_in x (births_where (o ∷ kept) test))
    go more true e (inl same) = rw e (subst (λ (k : ℕ). IsTrue (is_in k (o.birth ∷ births_where kept test))) (sym same.1) (is_in-head o.birth (births_where kept test)))
    go more false e (inl same) = absurd (let f : test x ≡ false = ap test same.1 ∙ e in let no : ⊥ = cc in no)
    go more true e (inr other) = rw e (is_in-tail x o.birth (births_where kept test) (more (rw other.0 at t)))
    go more false e (inr other) = rw e (more (rw other.0 at t))
