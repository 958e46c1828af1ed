-- What else holds of steps, as the code does them.
use Rattle.std.proofs.Common.{◌≡◌, ℕ, ◌+◌, refl, sym, ◌∙◌, subst}
use Rattle.std.specs.Prelude.{◌↔◌, min}
use Rattle.old_space.specs.Sweeping.{units_left}
use Rattle.sweep_steps.specs.declared.SweepState.{SweepState}
use Rattle.sweep_steps.specs.declared.SweepState.TheVariants.{Working, Finished}
use Rattle.text_model.specs.declared.line.Phase.{Phase}
use Rattle.text_model.specs.declared.line.Phase.TheVariants.{Finalizing}
use Rattle.store_model.specs.Store.{Store}
use Rattle.store_model.specs.Sound.{IsPhaseSound}
use Rattle.heap_parts.specs.Parts.{HeapParts}
use Rattle.heap_parts.specs.Collects.{IsCollected}
use Rattle.heap_phases.specs.Bounds.{SweepsUnits, LeavesNone}
use Rattle.heap_phases.specs.Steps.{CanStep}
use Rattle.heap_phases.specs.Swept.{phase_of}

over-of : (state : SweepState) (phase : Phase) (units : ℕ) → phase ≡ phase_of state → (state ≡ Finished) ↔ (units ≡ 0) → (phase ≡ Finalizing) ↔ (units ≡ 0)
over-of Finished phase units e over = (λ f. over.0 refl, λ z. e)
over-of Working phase units e over = (
  λ f. absurd (let no : ⊥ = cc in no),
  λ z. absurd (let f : Working ≡ Finished = over.1 z in let no : ⊥ = cc in no),
)

pub sweeps_units : (old new : HeapParts) (state : SweepState) → units_left new.old_blocks + min old.setup.settings.sweep (units_left old.old_blocks) ≡ units_left old.old_blocks
    → new.phase ≡ phase_of state → (state ≡ Finished) ↔ (units_left new.old_blocks ≡ 0) → SweepsUnits old new
sweeps_units old new state less e over = record { fewer = less; over = over-of state new.phase (units_left new.old_blocks) e over }

phase-sound : (heap : HeapParts) (store : Store) → IsCollected heap store → heap.phase ≡ Finalizing → IsPhaseSound Finalizing heap.setup.settings.sweep store
phase-sound heap store c finalizing = subst (λ (ph : Phase). IsPhaseSound ph heap.setup.settings.sweep store) (c.stands.counts.phase_is ∙ finalizing) c.stands.sound.phase

pub leaves_none : (old new : HeapParts) → CanStep old → old.phase ≡ Finalizing → new.husk_list ≡ old.husk_list → LeavesNone old new
leaves_none old new can finalizing same = record {
  husks = same ∙ (sym can.collected.stands.husk_list.are ∙ (phase-sound old can.store can.collected finalizing).0);
  doomed = λ store c. (phase-sound old store c finalizing).1;
}
