-- A visit leaves a sound store.
use Rattle.std.proofs.Common.{◌≡◌, ℕ, IsTrue, List, [], ◌∷◌, ◌++◌, sym, subst, inl, inr}
use Rattle.std.specs.Prelude.{IsFalse}
use Rattle.object_model.proofs.Members.{in-either, is_in-cases, is_in-nil}
use Rattle.store_model.specs.Marking.{with_visited}
use Rattle.store_model.specs.MarkingOrder.{AreAllIn}
use Rattle.store_model.proofs.SoundLaws.{sound_but}
use Rattle.text_model.specs.declared.line.Phase.{Phase}
use Rattle.text_model.specs.declared.line.Phase.TheVariants.{Marking}
use Rattle.store_model.specs.Store.{Store}
use Rattle.object_model.specs.declared.settings.Settings.{Settings}
use Rattle.object_model.specs.Sets.{is_in}
use Rattle.store_model.specs.Sound.{IsSound, IsPhaseSound, AreNoneOf}

abbrev pub visited_too : Store → ℕ → Store
visited_too store birth = record store { visited = store.visited ++ birth ∷ [] }

-- visits of settled objects that were not found unreached leave a sound store
pub visits_sound : (settings : Settings) (store : Store) (births : List ℕ) → store.phase ≡ Marking → AreAllIn births store.settled → AreNoneOf births store.unreached
    → IsSound settings store → IsSound settings (with_visited store births)
visits_sound settings store births marking settled reached s =
    let p : IsPhaseSound Marking settings.sweep store = subst (λ (ph : Phase). IsPhaseSound ph settings.sweep store) marking s.phase in
    sound_but settings store store.husks store.homes (store.visited ++ births) store.left store.phase
    (subst (λ (ph : Phase). IsPhaseSound ph settings.sweep (with_visited store births)) (sym marking) (
      p.0,
      p.1,
      record {
        visited_settled = λ x t. elim (in-either x store.visited births t) [ inl u ↦ p.2.visited_settled x u | inr u ↦ settled x u ];
        visited_reached = λ x t. elim (in-either x store.visited births t) [ inl u ↦ p.2.visited_reached x u | inr u ↦ reached x u ];
        doomed_unreached = p.2.doomed_unreached;
      },
    )) s.births s

-- and so does one visit
pub visit_sound : (settings : Settings) (store : Store) (x : ℕ) → store.phase ≡ Marking → IsTrue (is_in x store.settled) → IsFalse (is_in x store.unreached)
    → IsSound settings store → IsSound settings (visited_too store x)
visit_sound settings store x marking settled reached s = visits_sound settings store (x ∷ []) marking
    (λ y t. elim (is_in-cases y x [] t) [ inl e ↦ subst (λ (k : ℕ). IsTrue (is_in k store.settled)) (sym e) settled | inr none ↦ absurd (is_in-nil y none) ])
    (λ y t. elim (is_in-cases y x [] t) [ inl e ↦ subst (λ (k : ℕ). IsFalse (is_in k store.unreached)) (sym e) reached | inr none ↦ absurd (is_in-nil y none) ]) s
