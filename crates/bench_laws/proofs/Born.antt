-- A birth leaves a store of a generated script.
use Rattle.std.proofs.Common.{◌≡◌, ◌≢◌, ℕ, zero, suc, ◌+◌, ◌<◌, ◌≤◌, ◌⊎◌, Bool, false, IsTrue, List, [], ◌∷◌, map, length, replicate, Option, Some, None, refl, sym, ap, ◌∙◌, subst, inl, inr, arith}
use Rattle.std.specs.Prelude.{filter_map, slice_set}
use Rattle.std.proofs.lemmas.Bool.{cases_Bool, cases_eq}
use Rattle.type_table.specs.declared.info.Shape.{Shape}
use Rattle.type_table.specs.declared.info.Shape.TheVariants.{Fixed, IntArray, RefArray, Weak}
use Rattle.type_table.specs.declared.info.TypeInfo.{TypeInfo}
use Rattle.object_model.specs.declared.kind.Kind.{Kind}
use Rattle.object_model.specs.Newborn.{Request, newborn}
use Rattle.object_model.specs.Object.{Object, object_at, new_refs, words_of}
use Rattle.object_model.specs.Sets.{is_in}
use Rattle.object_model.specs.Shapes.{kind_of}
use Rattle.object_model.proofs.Members.{is_in-nil, in-left}
use Rattle.store_model.specs.Store.{Store}
use Rattle.store_model.specs.Slots.{held}
use Rattle.store_model.specs.Birth.{with_birth}
use Rattle.store_model.specs.Roots.{is_kept, referents_in, target_in}
use Rattle.store_model.specs.Sound.{IsSound}
use Rattle.store_model.proofs.BirthSound.{more_is, kept-in}
use Rattle.store_model.proofs.CollectionsSound.{IsWell}
use Rattle.store_model.proofs.RootLaws.{held_root}
use Rattle.bench_laws.proofs.Forms.{HasForm, AreSlotsFormed, AreFilled, IsGenerated, pair, row, weak, bench_settings, sweeps}

-- what a slot holds that now holds something else, and what the others hold
pub held_set : (slots : List (Option ℕ)) (slot : ℕ) (birth : Option ℕ) (i x : ℕ) → held (slice_set slots slot birth) i ≡ Some x
    → ((i ≡ slot) × (birth ≡ Some x)) ⊎ ((i ≢ slot) × (held slots i ≡ Some x))
held_set [] slot birth i x e = absurd (let no : ⊥ = cc in no)
held_set (old ∷ slots) zero birth zero x e = inl (refl, e)
held_set (old ∷ slots) zero birth (suc i) x e = inr ((λ same. let no : ⊥ = omega (arith, same) in no), e)
held_set (old ∷ slots) (suc slot) birth zero x e = inr ((λ same. let no : ⊥ = omega (arith, same) in no), e)
held_set (old ∷ slots) (suc slot) birth (suc i) x e = elim (held_set slots slot birth i x e) [
  | inl here ↦ inl (ap suc here.0, here.1)
  | inr there ↦ inr ((λ same. there.0 (omega (arith, same))), there.1)
]

held_here : (slots : List (Option ℕ)) (slot : ℕ) (birth : Option ℕ) → slot < length slots → held (slice_set slots slot birth) slot ≡ birth
held_here [] slot birth below = absurd (let no : ⊥ = omega (arith, below) in no)
held_here (old ∷ slots) zero birth below = refl
held_here (old ∷ slots) (suc slot) birth below = held_here slots slot birth (omega (arith, below))

pub held_there : (slots : List (Option ℕ)) (slot : ℕ) (birth : Option ℕ) (i : ℕ) → i ≢ slot → held (slice_set slots slot birth) i ≡ held slots i
held_there [] slot birth i ne = refl
held_there (old ∷ slots) zero birth zero ne = absurd (ne refl)
held_there (old ∷ slots) zero birth (suc i) ne = refl
held_there (old ∷ slots) (suc slot) birth zero ne = refl
held_there (old ∷ slots) (suc slot) birth (suc i) ne = held_there slots slot birth i (λ same. ne (ap suc same))

-- a new object refers to nothing
nothing_in : (n : ℕ) → filter_map (λ (r : Option ℕ). r) (replicate n None) ≡ []
nothing_in zero = refl
nothing_in (suc n) = nothing_in n

refers_to_nothing : (shape : Shape) (n : ℕ) → filter_map (λ (r : Option ℕ). r) (new_refs shape n) ≡ []
refers_to_nothing (Fixed ints refs) n = nothing_in refs
refers_to_nothing IntArray n = refl
refers_to_nothing RefArray n = nothing_in n
refers_to_nothing Weak n = refl

-- an object of this form may stand in the slot
pub record FitsSlot (slot : ℕ) (form : Kind) : Type 0 where
  pub within : slot < 16
  pub pairs : slot < 8 → form ≡ pair
  pub rows : 8 ≤ slot → slot < 12 → form ≡ row
  pub weaks : slot ≡ 14 → form ≡ weak

-- what holds of a request: its object is small, fits its slot, and has a target, if it has one, of type 1
pub record IsSmallRequest (store : Store) (info : TypeInfo) (request : Request) : Type 0 where
  pub small : words_of (newborn store.next info request) ≤ 703
  pub fits : FitsSlot request.slot (kind_of (newborn store.next info request))
  pub kept_target : (t : ℕ) → request.target ≡ Some t → IsTrue (is_kept store.kept t)
  pub pair_target : (t : ℕ) → request.target ≡ Some t → HasForm store.kept t pair

module _ {filled most : ℕ} {store : Store} (g : IsGenerated filled most store) (is_old : Bool) (info : TypeInfo) (request : Request) (r : IsSmallRequest store info request) where
  abbrev born : Object
  born = newborn store.next info request

  abbrev after : Store
  after = with_birth is_old store info request

  sound : IsSound bench_settings store
  sound = g.well.sound

  none_yet : is_kept store.kept store.next ≡ false
  none_yet = elim (cases_Bool (is_kept store.kept store.next)) [
    | inl t ↦ absurd (let b = (sound.births.born store.next (in-left store.next (map (λ (o : Object). o.birth) store.kept) (map (λ (h : ℕ × ℕ). h.0) store.husks) (kept-in store.kept store.next t))).1 in let no : ⊥ = omega (arith, b) in no)
    | inr f ↦ f
  ]

  found : (x : ℕ) → ((x ≡ store.next) × (object_at after.kept x ≡ Some born)) ⊎ ((x ≢ store.next) × (object_at after.kept x ≡ object_at store.kept x))
  found x = (more_is store.kept born x none_yet).found

  form_more : {x : ℕ} {form : Kind} → IsTrue (is_kept store.kept x) → HasForm store.kept x form → HasForm after.kept x form
  form_more {x} kept h = record {
    is = λ o e. elim (found x) [
      | inl here ↦ absurd (let none : is_kept store.kept x ≡ false = ap (is_kept store.kept) here.0 ∙ none_yet in let no : ⊥ = cc in no)
      | inr there ↦ h.is o (sym there.1 ∙ e)
    ];
  }

  form_new : (form : Kind) → kind_of born ≡ form → HasForm after.kept store.next form
  form_new form is_form = record {
    is = λ o e. elim (found store.next) [
      | inl here ↦ (let same : Some born ≡ Some o = sym here.1 ∙ e in let one : born ≡ o = cc in ap kind_of (sym one) ∙ is_form)
      | inr there ↦ absurd (there.0 refl)
    ];
  }

  new_references : (x y : ℕ) → IsTrue (is_in y (referents_in (object_at after.kept x))) → HasForm after.kept y pair
  new_references x y t = elim (found x) [
    | inl here ↦ absurd (is_in-nil y (subst (λ (xs : List ℕ). IsTrue (is_in y xs)) (ap referents_in here.1 ∙ refers_to_nothing info.shape request.items) t))
    | inr there ↦
        let was : IsTrue (is_in y (referents_in (object_at store.kept x))) = subst (λ (o : Option Object). IsTrue (is_in y (referents_in o))) there.1 t in
        form_more (sound.fields.references x y was) (g.objects.references x y was)
  ]

  new_targets : (x t : ℕ) → target_in (object_at after.kept x) ≡ Some t → HasForm after.kept t pair
  new_targets x t e = elim (found x) [
    | inl here ↦ let asked : request.target ≡ Some t = ap target_in (sym here.1) ∙ e in form_more (r.kept_target t asked) (r.pair_target t asked)
    | inr there ↦ let was : target_in (object_at store.kept x) ≡ Some t = ap target_in (sym there.1) ∙ e in form_more (sound.fields.targets x t was) (g.objects.targets x t was)
  ]

  new_small : (x : ℕ) (o : Object) → object_at after.kept x ≡ Some o → words_of o ≤ 703
  new_small x o e = elim (found x) [
    | inl here ↦ (let same : Some born ≡ Some o = sym here.1 ∙ e in let one : born ≡ o = cc in subst (λ (p : Object). words_of p ≤ 703) one r.small)
    | inr there ↦ g.objects.small x o (sym there.1 ∙ e)
  ]

  kept_held : (slot x : ℕ) → held store.slots slot ≡ Some x → IsTrue (is_kept store.kept x)
  kept_held slot x e = sound.roots x (held_root store slot x e)

  -- what a slot holds has its form, where the new object has it and what the slot held had it
  slot_form : (slot x : ℕ) (form : Kind) → (slot ≡ request.slot → kind_of born ≡ form) → (held store.slots slot ≡ Some x → HasForm store.kept x form)
      → held after.slots slot ≡ Some x → HasForm after.kept x form
  slot_form slot x form new old e = elim (held_set store.slots request.slot (Some store.next) slot x e) [
    | inl here ↦ let same : store.next ≡ x = cc in subst (λ (k : ℕ). HasForm after.kept k form) same (form_new form (new here.0))
    | inr there ↦ form_more (kept_held slot x there.1) (old there.1)
  ]

  new_slots : AreSlotsFormed after.slots after.kept
  new_slots = record {
    pairs = λ slot x below e. slot_form slot x pair (λ same. r.fits.pairs (omega (arith, same, below))) (g.slots.pairs slot x below) e;
    rows = λ slot x from below e. slot_form slot x row (λ same. r.fits.rows (omega (arith, same, from)) (omega (arith, same, below))) (g.slots.rows slot x from below) e;
    weaks = λ x e. slot_form 14 x weak (λ same. r.fits.weaks (sym same)) (g.slots.weaks x) e;
  }

  -- the slots that are filled are those of before and that of the new object
  new_filled : (now : ℕ) → ((slot : ℕ) → slot < now → (slot < filled) ⊎ (slot ≡ request.slot)) → AreFilled now after.slots
  new_filled now covers = record {
    at = λ slot below. elim (cases_eq slot request.slot) [
      | inl same ↦ (
        store.next,
        subst (λ (k : ℕ). held after.slots k ≡ Some store.next) (sym same)
            (held_here store.slots request.slot (Some store.next) (let sixteen = g.well.form.slots in let fits = r.fits.within in omega (arith, sixteen, fits))),
      )
      | inr other ↦ elim (covers slot below) [
        | inl was ↦ let h = g.full.at slot was in (h.0, held_there store.slots request.slot (Some store.next) slot other ∙ h.1)
        | inr same ↦ absurd (other same)
      ]
    ];
  }

  pub generated_born : (now : ℕ) → ((slot : ℕ) → slot < now → (slot < filled) ⊎ (slot ≡ request.slot)) → IsWell bench_settings sweeps after → IsGenerated now (most + 1) after
  generated_born now covers well = record {
    well = well;
    plain = record { pinned = g.plain.pinned; registered = g.plain.registered; chosen = g.plain.chosen; queues = g.plain.queues; structs = g.plain.structs };
    objects = record { small = new_small; references = new_references; targets = new_targets };
    slots = new_slots;
    full = new_filled now covers;
    few = let few = g.few in omega (arith, few);
  }
