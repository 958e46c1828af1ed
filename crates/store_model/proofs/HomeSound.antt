-- A store stays sound where a home is told.
use Rattle.std.proofs.Common.{◌≡◌, ℕ, ◌⊎◌, Bool, IsTrue, Some, None, sym, ap, ◌∙◌, subst, inl, inr}
use Rattle.std.specs.Prelude.{cond}
use Rattle.std.proofs.lemmas.Bool.Decides.{eqb_tells}
use Rattle.type_table.specs.Table.{value_at, with_value}
use Rattle.type_table.proofs.TableLaws.{value_at-with_value, KeysRise-with_value}
use Rattle.store_model.specs.Store.{Store}
use Rattle.object_model.specs.Sets.{is_in}
use Rattle.store_model.proofs.SoundLaws.{sound_but}
use Rattle.store_model.specs.Sound.{IsSound, IsPhaseSound, births_in}
use Rattle.object_model.specs.declared.settings.Settings.{Settings}
use Rattle.text_model.specs.declared.line.Phase.{Phase}
use Rattle.text_model.specs.declared.line.Phase.TheVariants.{Scanning, Marking, Sweeping, Finalizing}

-- the store with one home more is sound, where nobody else has it
pub home_sound : {settings : Settings} {store : Store} (birth at : ℕ) → IsSound settings store → value_at store.homes birth ≡ None → ((other : ℕ) → value_at store.homes other ≡ Some at → ⊥)
    → IsTrue (is_in birth (births_in store)) → IsSound settings (record store { homes = with_value store.homes birth at })
home_sound {settings = settings} {store = store} birth at s new free there =
    sound_but settings store store.husks (with_value store.homes birth at) store.visited store.left store.phase (phase-home settings.sweep store.phase s.phase) (record {
      next_above = s.births.next_above;
      homes_rise = KeysRise-with_value store.homes birth at s.births.homes_rise;
      born = s.births.born;
      differ = s.births.differ;
      homes_differ = λ x y place e f. elim (home-cases x place e) [
        | inl a ↦ elim (home-cases y place f) [ inl b ↦ a.0 ∙ sym b.0 | inr b ↦ absurd (free y (b ∙ ap Some a.1)) ]
        | inr a ↦ elim (home-cases y place f) [ inl b ↦ absurd (free x (a ∙ ap Some b.1)) | inr b ↦ s.births.homes_differ x y place a b ]
      ];
      housed = λ x place e. elim (home-cases x place e) [
        | inl a ↦ subst (λ (k : ℕ). IsTrue (is_in k (births_in store))) (sym a.0) there
        | inr a ↦ s.births.housed x place a
      ];
    }) s
  where
    home-cases : (x place : ℕ) → value_at (with_value store.homes birth at) x ≡ Some place → ((x ≡ birth) × (place ≡ at)) ⊎ (value_at store.homes x ≡ Some place)
    home-cases x place e = elim (eqb_tells x birth) [
      | inl is ↦ inl (is.1, (let both : Some at ≡ Some place = sym (value_at-with_value store.homes birth x at ∙ ap (λ (b : Bool). cond b (Some at) (value_at store.homes x)) is.0) ∙ e in let same : place ≡ at = cc in same))
      | inr is ↦ inr (sym (value_at-with_value store.homes birth x at ∙ ap (λ (b : Bool). cond b (Some at) (value_at store.homes x)) is.0) ∙ e)
    ]

    phase-home : (sweep : ℕ) (phase : Phase) → IsPhaseSound phase sweep store → IsPhaseSound phase sweep (record store { homes = with_value store.homes birth at })
    phase-home sweep Scanning h = h
    phase-home sweep Marking h = h
    phase-home sweep Sweeping h = h
    phase-home sweep Finalizing h = h
