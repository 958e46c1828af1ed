-- The last step of a cycle, as the code does it.
use Rattle.std.proofs.Common.{◌≡◌, ℕ, List, [], ◌∷◌, ◌++◌, map, IsTrue, sym, ap, ap₂, ◌∙◌, subst, append_assoc}
use Rattle.type_table.specs.Table.{Table}
use Rattle.text_model.specs.declared.line.Line.{Line}
use Rattle.text_model.specs.declared.line.Line.TheVariants.{Stepped, ThresholdIs}
use Rattle.text_model.specs.declared.line.Phase.TheVariants.{Scanning, Finalizing}
use Rattle.object_model.specs.Sets.{is_in}
use Rattle.object_model.proofs.Members.{is_in-head, is_in-tail}
use Rattle.object_view.specs.Views.{HasObject}
use Rattle.finalizer_order.specs.Finalizers.{Finalizers, placed, placed_queues}
use Rattle.finalizer_order.specs.Queues as entry_queues
use Rattle.store_model.specs.Sweeping.{next_threshold, queues_with}
use Rattle.heap_parts.specs.NamedFinals.{births_told}
use Rattle.heap_parts.specs.Parts.{HeapParts}
use Rattle.heap_parts.specs.Collects.{StepsMajor}
use Rattle.heap_phases.specs.Ending.{HoldObjects, queued_line}
use Rattle.heap_phases.specs.Steps.{CanStep}
use Rattle.heap_phases.proofs.ChooseCalls.{with_chosen_finals, pushed_told}
use Rattle.heap_phases.proofs.FinalStands.{final_parts, queued_finals}
use Rattle.heap_phases.proofs.StepContracts.{finalizes_major}

-- the cycle ends, with this threshold for the next one
abbrev pub ended_parts : HeapParts → ℕ → HeapParts
ended_parts heap threshold = record (final_parts heap) { threshold = threshold }

-- the objects that were chosen are whole
pub chosen_objects : (heap : HeapParts) → CanStep heap → HoldObjects heap.memory heap.setup.types heap.chosen
chosen_objects heap can = go heap.chosen (λ p t. can.collected.stands.words.whole p (can.collected.stands.finalizers.chosen_are.there p t))
  where
    go : (es : List (ℕ × ℕ)) → ((p : ℕ) → IsTrue (is_in p (map (λ e. e.0) es)) → HasObject heap.memory heap.setup.types p) → HoldObjects heap.memory heap.setup.types es
    go [] all = tt
    go (e ∷ es) all = (all e.0 (is_in-head e.0 (map (λ x. x.0) es)), go es (λ p t. all p (is_in-tail p e.0 (map (λ x. x.0) es) t)))

-- what the parts show of the finalizers once the chosen entered their queues
pub flushed_shown : (heap : HeapParts) (old : Finalizers)
    → with_chosen_finals heap (record old { chosen = []; queues = entry_queues.queues_with old.queues old.chosen }) heap.memory
    ≡ record (with_chosen_finals heap old heap.memory) { chosen = []; queues = queues_with (placed_queues old.queues) (placed old.chosen); finals = queued_finals (births_told old) }
flushed_shown heap old = ap₂ (λ (qs bs : Table (List ℕ)). record (with_chosen_finals heap old heap.memory) { chosen = []; queues = qs; finals = record (births_told old) { chosen = []; queues = bs } })
    (pushed_told (λ e. e.place) old.chosen old.queues) (pushed_told (λ e. e.birth) old.chosen old.queues)

pub finalizes_all : (heap : HeapParts) (threshold : ℕ) (before after : List Line) → heap.phase ≡ Finalizing
    → threshold ≡ next_threshold heap.setup.settings.minimum heap.old_words heap.threshold
    → after ≡ ((before ++ (Stepped Finalizing Scanning ∷ [])) ++ map (queued_line heap.memory) heap.chosen) ++ (ThresholdIs threshold ∷ [])
    → StepsMajor heap (ended_parts heap threshold) before after
finalizes_all heap threshold before after finalizing is told =
    let words : ℕ = next_threshold heap.setup.settings.minimum heap.old_words heap.threshold in
    let lines : after ≡ before ++ (Stepped Finalizing Scanning ∷ (map (queued_line heap.memory) heap.chosen ++ ThresholdIs words ∷ [])) =
    told ∙ (append_assoc (before ++ (Stepped Finalizing Scanning ∷ [])) (map (queued_line heap.memory) heap.chosen) (ThresholdIs threshold ∷ [])
    ∙ (append_assoc before (Stepped Finalizing Scanning ∷ []) (map (queued_line heap.memory) heap.chosen ++ ThresholdIs threshold ∷ [])
    ∙ ap (λ (n : ℕ). before ++ (Stepped Finalizing Scanning ∷ (map (queued_line heap.memory) heap.chosen ++ ThresholdIs n ∷ []))) is)) in
    subst (λ (n : ℕ). StepsMajor heap (ended_parts heap n) before after) (sym is) (finalizes_major heap before after finalizing lines)
