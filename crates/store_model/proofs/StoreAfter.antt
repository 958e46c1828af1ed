-- The objects that a minor collection leaves, by their births.
use Rattle.std.proofs.Common.{◌≡◌, ℕ, Bool, true, false, List, [], ◌∷◌, map, Option, Some, None, refl, sym, ap, ◌∙◌, subst, inl, inr}
use Rattle.std.specs.Prelude.{is_some, option_map, ◌&&◌, slice_get}
use Rattle.std.proofs.lemmas.Bool.{cases_Bool, ne_eqb}
use Rattle.std.proofs.lemmas.Bool.Decides.{eqb_tells}
use Rattle.object_model.specs.Object.{Object, object_at}
use Rattle.object_model.specs.Fields.{refs_of}
use Rattle.store_model.specs.Roots.{is_kept, referents_in, target_in}
use Rattle.store_model.specs.Reach.{objects_where}
use Rattle.store_model.specs.MarkingOrder.{IsItem}
use Rattle.store_model.specs.MinorCollection.{clear_target, left_target}

-- the objects that pass, with the targets that are gone cleared
abbrev pub left_objects : List Object → (ℕ → Bool) → (ℕ → Bool) → List Object
left_objects kept passes gone = map (clear_target gone) (objects_where kept passes)

-- an object that passes is the one that was there, with its target left
pub object_left : (kept : List Object) (passes gone : ℕ → Bool) (x : ℕ) → passes x ≡ true → object_at (left_objects kept passes gone) x ≡ option_map (clear_target gone) (object_at kept x)
object_left [] passes gone x t = refl
object_left (o ∷ os) passes gone x t =
    let more = object_left os passes gone x t in
    elim (eqb_tells x o.birth) [
      | inl e ↦ let here : passes o.birth ≡ true = subst (λ (b : ℕ). passes b ≡ true) e.1 t in rw (here, e.0) refl
      | inr e ↦ elim (cases_Bool (passes o.birth)) [
        | inl p ↦ rw (p, e.0) more
        | inr p ↦ rw (p, e.0) more
      ]
    ]

-- and one that does not pass is not there
pub object_gone : (kept : List Object) (passes gone : ℕ → Bool) (x : ℕ) → passes x ≡ false → object_at (left_objects kept passes gone) x ≡ None
object_gone [] passes gone x f = refl
object_gone (o ∷ os) passes gone x f =
    let more = object_gone os passes gone x f in
    elim (cases_Bool (passes o.birth)) [
      | inl p ↦ rw (p, ne_eqb x o.birth (λ e. let clash : true ≡ false = sym p ∙ subst (λ (b : ℕ). passes b ≡ false) e f in let no : ⊥ = cc in no)) more
      | inr p ↦ rw p more
    ]

module _ (kept : List Object) (passes gone : ℕ → Bool) (x : ℕ) where
  kept-both : (o : Option Object) → is_some (option_map (clear_target gone) o) ≡ is_some o
  kept-both None = refl
  kept-both (Some o) = refl

  -- what is kept passes, and was kept
  pub is_kept_left : is_kept (left_objects kept passes gone) x ≡ (passes x && is_kept kept x)
  is_kept_left = elim (cases_Bool (passes x)) [
    | inl t ↦ ap is_some (object_left kept passes gone x t) ∙ (kept-both (object_at kept x) ∙ (let e : is_kept kept x ≡ (passes x && is_kept kept x) = rw t refl in e))
    | inr f ↦ ap is_some (object_gone kept passes gone x f) ∙ (let e : false ≡ (passes x && is_kept kept x) = rw f refl in e)
  ]

  refs-both : (o : Option Object) → refs_of (option_map (clear_target gone) o) ≡ refs_of o
  refs-both None = refl
  refs-both (Some o) = refl

  referents-both : (o : Option Object) → referents_in (option_map (clear_target gone) o) ≡ referents_in o
  referents-both None = refl
  referents-both (Some o) = refl

  target-both : (o : Option Object) → target_in (option_map (clear_target gone) o) ≡ left_target gone (target_in o)
  target-both None = refl
  target-both (Some o) = refl

  pub refs_left : passes x ≡ true → refs_of (object_at (left_objects kept passes gone) x) ≡ refs_of (object_at kept x)
  refs_left t = ap refs_of (object_left kept passes gone x t) ∙ refs-both (object_at kept x)

  pub refs_gone : passes x ≡ false → refs_of (object_at (left_objects kept passes gone) x) ≡ []
  refs_gone f = ap refs_of (object_gone kept passes gone x f)

  pub referents_left : passes x ≡ true → referents_in (object_at (left_objects kept passes gone) x) ≡ referents_in (object_at kept x)
  referents_left t = ap referents_in (object_left kept passes gone x t) ∙ referents-both (object_at kept x)

  pub referents_gone : passes x ≡ false → referents_in (object_at (left_objects kept passes gone) x) ≡ []
  referents_gone f = ap referents_in (object_gone kept passes gone x f)

  pub target_left : passes x ≡ true → target_in (object_at (left_objects kept passes gone) x) ≡ left_target gone (target_in (object_at kept x))
  target_left t = ap target_in (object_left kept passes gone x t) ∙ target-both (object_at kept x)

  pub target_gone : passes x ≡ false → target_in (object_at (left_objects kept passes gone) x) ≡ None
  target_gone f = ap target_in (object_gone kept passes gone x f)

  -- an item of what is left was one before
  pub item_before : (i y : ℕ) → IsItem (left_objects kept passes gone) x i y → IsItem kept x i y
  item_before i y e = elim (cases_Bool (passes x)) [
    | inl t ↦ sym (ap (λ (rs : List (Option ℕ)). slice_get rs i) (refs_left t)) ∙ e
    | inr f ↦ absurd (let bad : None ≡ Some (Some y) = sym (ap (λ (rs : List (Option ℕ)). slice_get rs i) (refs_gone f)) ∙ e in let no : ⊥ = cc in no)
  ]
