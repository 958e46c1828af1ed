-- The stores of generated scripts: which forms their objects have, and what stands in their slots.
use Rattle.std.proofs.Common.{◌≡◌, ℕ, ◌+◌, ◌<◌, ◌≤◌, IsTrue, List, Option, Some, None, refl, sym, ap, ◌∙◌, subst, arith}
use Rattle.std.specs.Prelude.{filter_map}
use Rattle.type_table.specs.declared.info.Shape.TheVariants.{Fixed, RefArray, Weak}
use Rattle.object_model.specs.declared.kind.Kind.{Kind}
use Rattle.object_model.specs.declared.settings.Settings.{Settings}
use Rattle.object_model.specs.Object.{Object, object_at, words_of}
use Rattle.object_model.specs.Sets.{is_in}
use Rattle.object_model.specs.Setup.{defaults}
use Rattle.object_model.specs.Shapes.{kind_of}
use Rattle.type_table.specs.Words.{words_in}
use Rattle.store_model.specs.Store.{Store}
use Rattle.store_model.specs.Slots.{held}
use Rattle.store_model.specs.Roots.{referents_in, target_in}
use Rattle.store_model.proofs.CollectionsSound.{IsWell}
use Rattle.bench_laws.proofs.Left.{AreLeft, IsPlain, Thins}

-- the form of an object of type 1, which all references and targets lead to, of an array of type 2, and of a weak object
abbrev pub pair : Kind
pair = record { shape = Fixed 1 2; ints = 1; refs = 2 }

abbrev pub row : Kind
row = record { shape = RefArray; ints = 0; refs = 8 }

abbrev pub weak : Kind
weak = record { shape = Weak; ints = 0; refs = 0 }

-- the object of a birth, if it is kept, has this form
pub record HasForm (kept : List Object) (x : ℕ) (form : Kind) : Type 0 where
  pub is : (o : Object) → object_at kept x ≡ Some o → kind_of o ≡ form

-- No object has more than 703 words, and references and targets lead to objects of type 1.
pub record AreFormed (kept : List Object) : Type 0 where
  pub small : (x : ℕ) (o : Object) → object_at kept x ≡ Some o → words_of o ≤ 703
  pub references : (x y : ℕ) → IsTrue (is_in y (referents_in (object_at kept x))) → HasForm kept y pair
  pub targets : (x t : ℕ) → target_in (object_at kept x) ≡ Some t → HasForm kept t pair

-- Slots 0 to 7 hold objects of type 1, slots 8 to 11 arrays of type 2, and slot 14 a weak object.
pub record AreSlotsFormed (slots : List (Option ℕ)) (kept : List Object) : Type 0 where
  pub pairs : (slot x : ℕ) → slot < 8 → held slots slot ≡ Some x → HasForm kept x pair
  pub rows : (slot x : ℕ) → 8 ≤ slot → slot < 12 → held slots slot ≡ Some x → HasForm kept x row
  pub weaks : (x : ℕ) → held slots 14 ≡ Some x → HasForm kept x weak

-- the slots below a number are not empty
pub record AreFilled (filled : ℕ) (slots : List (Option ℕ)) : Type 0 where
  pub at : (slot : ℕ) → slot < filled → (x : ℕ) × (held slots slot ≡ Some x)

-- the settings of generated scripts
abbrev pub bench_settings : Settings
bench_settings = record defaults { roots = 16 }

pub sweeps : 0 < bench_settings.sweep
sweeps = omega arith

-- A store of a generated script, whose slots below `filled` are not empty, and whose next birth is at most `most`.
pub record IsGenerated (filled most : ℕ) (store : Store) : Type 0 where
  pub well : IsWell bench_settings sweeps store
  pub plain : IsPlain store
  pub objects : AreFormed store.kept
  pub slots : AreSlotsFormed store.slots store.kept
  pub full : AreFilled filled store.slots
  pub few : store.next ≤ most

-- objects that are left have their forms
pub form_left : {old new : List Object} {x : ℕ} {form : Kind} → AreLeft old new → HasForm old x form → HasForm new x form
form_left left h = record { is = λ o e. let l = left.each _ o e in l.form ∙ h.is l.was l.there }

references_left : {old new : List Object} → AreLeft old new → AreFormed old → (x y : ℕ) → IsTrue (is_in y (referents_in (object_at new x))) → HasForm new y pair
references_left {old} {new} left f x y t = go (object_at new x) refl t
  where
    go : (found : Option Object) → object_at new x ≡ found → IsTrue (is_in y (referents_in found)) → HasForm new y pair
    go None e t = absurd (let no : ⊥ = cc in no)
    go (Some o) e t =
        let l = left.each x o e in
        let was : IsTrue (is_in y (referents_in (object_at old x))) =
        subst (λ (found : Option Object). IsTrue (is_in y (referents_in found))) (sym l.there)
        (subst (λ (refs : List (Option ℕ)). IsTrue (is_in y (filter_map (λ r. r) refs))) l.refs t) in
        form_left left (f.references x y was)

targets_left : {old new : List Object} → AreLeft old new → AreFormed old → (x t : ℕ) → target_in (object_at new x) ≡ Some t → HasForm new t pair
targets_left {old} {new} left f x t e = go (object_at new x) refl e
  where
    go : (found : Option Object) → object_at new x ≡ found → target_in found ≡ Some t → HasForm new t pair
    go None is e = absurd (let no : ⊥ = cc in no)
    go (Some o) is e = let l = left.each x o is in form_left left (f.targets x t (ap target_in l.there ∙ l.target t e))

-- the words of an object are those of its form
abbrev pub words_of_kind : Kind → ℕ
words_of_kind kind = words_in kind.shape (kind.ints + kind.refs)

pub formed_left : {old new : List Object} → AreLeft old new → AreFormed old → AreFormed new
formed_left left f = record {
  small = λ x o e. let l = left.each x o e in let same : words_of o ≡ words_of l.was = ap words_of_kind l.form in omega (arith, same, f.small x l.was l.there);
  references = references_left left f;
  targets = targets_left left f;
}

pub slots_left : {slots : List (Option ℕ)} {old new : List Object} → AreLeft old new → AreSlotsFormed slots old → AreSlotsFormed slots new
slots_left left s = record {
  pairs = λ slot x below e. form_left left (s.pairs slot x below e);
  rows = λ slot x from below e. form_left left (s.rows slot x from below e);
  weaks = λ x e. form_left left (s.weaks x e);
}

-- A collection leaves such a store.
pub generated_left : {filled most : ℕ} {old new : Store} → Thins old new → IsWell bench_settings sweeps new → IsGenerated filled most old → IsGenerated filled most new
generated_left {filled} {most} {old} {new} thins well g = record {
  well = well;
  plain = thins.plain g.plain;
  objects = formed_left thins.objects g.objects;
  slots = subst (λ (slots : List (Option ℕ)). AreSlotsFormed slots new.kept) (sym thins.slots) (slots_left thins.objects g.slots);
  full = subst (AreFilled filled) (sym thins.slots) g.full;
  few = subst (λ (next : ℕ). next ≤ most) (sym thins.next) g.few;
}
