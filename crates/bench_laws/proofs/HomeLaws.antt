-- A store stays sound where a home is told, anew or again.
use Rattle.std.proofs.Common.{◌≡◌, ℕ, IsTrue, [], ◌∷◌, map, Option, Some, None, refl, sym, ap, ◌∙◌, subst, inl, inr}
use Rattle.std.proofs.lemmas.Bool.Decides.{eqb_tells}
use Rattle.text_model.specs.declared.line.Phase.{Phase}
use Rattle.text_model.specs.declared.line.Phase.TheVariants.{Scanning, Marking, Sweeping, Finalizing}
use Rattle.type_table.specs.Table.{Table, value_at, with_value}
use Rattle.type_table.proofs.TableLaws.{value_at-with_value, KeysRise-with_value}
use Rattle.object_model.specs.declared.settings.Settings.{Settings}
use Rattle.object_model.specs.Object.{Object}
use Rattle.object_model.specs.Sets.{is_in}
use Rattle.object_model.proofs.Members.{is_in-head, is_in-tail, in-left}
use Rattle.store_model.specs.Store.{Store}
use Rattle.store_model.specs.Identity.{MayTell, TellsHome, home_places}
use Rattle.store_model.specs.Sound.{IsSound, IsPhaseSound, births_in}
use Rattle.store_model.proofs.BirthSound.{kept-in}
use Rattle.store_model.proofs.HomeSound.{home_sound}
use Rattle.store_model.proofs.RootLaws.{held_root}
use Rattle.store_model.proofs.SoundLaws.{sound_but}

-- what stands at a key is among the values
among_values : (homes : Table ℕ) (x place : ℕ) → value_at homes x ≡ Some place → IsTrue (is_in place (home_places homes))
among_values [] x place e = absurd (let no : ⊥ = cc in no)
among_values (entry ∷ homes) x place e = elim (eqb_tells x entry.0) [
  | inl same ↦ (let here : Some entry.1 ≡ Some place = sym (let f : value_at (entry ∷ homes) x ≡ Some entry.1 = rw same.0 refl in f) ∙ e in
      let is : entry.1 ≡ place = cc in subst (λ (k : ℕ). IsTrue (is_in k (home_places (entry ∷ homes)))) is (is_in-head entry.1 (home_places homes)))
  | inr other ↦ is_in-tail place entry.1 (home_places homes) (among_values homes x place (rw other.0 at e))
]

module _ {settings : Settings} {store : Store} (s : IsSound settings store) (birth place : ℕ) where
  abbrev told : Store
  told = record store { homes = with_value store.homes birth place }

  phase_told : (phase : Phase) → IsPhaseSound phase settings.sweep store → IsPhaseSound phase settings.sweep told
  phase_told Scanning h = h
  phase_told Marking h = h
  phase_told Sweeping h = h
  phase_told Finalizing h = h

  -- a home that is told again stands where it stood
  same_homes : value_at store.homes birth ≡ Some place → (x : ℕ) → value_at told.homes x ≡ value_at store.homes x
  same_homes is x = value_at-with_value store.homes birth x place ∙ elim (eqb_tells x birth) [
    | inl same ↦ rw same.0 (sym is ∙ ap (λ (k : ℕ). value_at store.homes k) (sym same.1))
    | inr other ↦ rw other.0 refl
  ]

  again_sound : value_at store.homes birth ≡ Some place → IsSound settings told
  again_sound is = sound_but settings store store.husks told.homes store.visited store.left store.phase (phase_told store.phase s.phase) (record {
    next_above = s.births.next_above;
    homes_rise = KeysRise-with_value store.homes birth place s.births.homes_rise;
    born = s.births.born;
    differ = s.births.differ;
    homes_differ = λ x y p e f. s.births.homes_differ x y p (sym (same_homes is x) ∙ e) (sym (same_homes is y) ∙ f);
    housed = λ x p e. s.births.housed x p (sym (same_homes is x) ∙ e);
  }) s

  either_sound : (home : Option ℕ) → value_at store.homes birth ≡ home → IsTrue (is_in birth (births_in store)) → MayTell home store.homes place → IsSound settings told
  either_sound (Some home) is there may = again_sound (is ∙ ap Some (sym may))
  either_sound None is there may =
      home_sound birth place s is (λ other e. let t = among_values store.homes other place e in let f = may.1 in let no : ⊥ = cc in no) there

pub told_sound : {settings : Settings} {store : Store} (root place : ℕ) (new : Store) → TellsHome store root place new → IsSound settings store → IsSound settings new
told_sound {settings} {store} root place new t s =
    let kept = s.roots t.birth (held_root store root t.birth t.is_held) in
    let there = in-left t.birth (map (λ (o : Object). o.birth) store.kept) (map (λ (h : ℕ × ℕ). h.0) store.husks) (kept-in store.kept t.birth kept) in
    subst (IsSound settings) (sym t.leaves) (either_sound s t.birth place (value_at store.homes t.birth) refl there t.may)
