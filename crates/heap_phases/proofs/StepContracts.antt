-- The contract of a major step, for each kind of step but the one that ends marking.
use Rattle.std.proofs.Common.{◌≡◌, ℕ, ◌≤◌, ◌<◌, List, [], ◌∷◌, ◌++◌, map, length, refl}
use Rattle.std.specs.Prelude.{◌-◌, min, take, sum_by}
use Rattle.std.specs.List.Sorted.{IsPermutation, IsNonDecreasing}
use Rattle.heap_space.specs.Memory.{Memory}
use Rattle.old_space.specs.Sweeping.{SweepsLowest, units_left}
use Rattle.old_space.specs.declared.Old.{Old}
use Rattle.sweep_steps.specs.Steps.{Sweeps}
use Rattle.text_model.specs.declared.line.Line.{Line}
use Rattle.text_model.specs.declared.line.Line.TheVariants.{Stepped, Freed}
use Rattle.text_model.specs.declared.line.Phase.TheVariants.{Scanning, Marking, Sweeping, Finalizing}
use Rattle.object_model.specs.ObjectWords.{words_at}
use Rattle.heap_parts.specs.Parts.{HeapParts, word_in}
use Rattle.heap_parts.specs.Collects.{StepsMajor}
use Rattle.heap_phases.specs.Swept.{swept_parts}
use Rattle.heap_phases.specs.Visiting.{old_roots, PlaceVisits, NoPlace, PassesPlace, VisitsPlace}
use Rattle.heap_phases.proofs.StartStands.{marking_parts}
use Rattle.heap_phases.proofs.FinalStands.{final_parts}
use Rattle.heap_phases.proofs.SweepSteps.{in_phase, phase_left}
use Rattle.heap_phases.proofs.MajorSteps.{starts, sweeps, finalizes, final_lines}
use Rattle.heap_phases.proofs.MarkingSteps.{marks_on, visited_lines}

pub starts_major : (heap : HeapParts) (before after : List Line) → heap.phase ≡ Scanning → after ≡ before ++ (Stepped Scanning Marking ∷ []) → StepsMajor heap (marking_parts heap (old_roots heap)) before after
starts_major heap before after scanning told = record {
  setup = refl;
  lines = Stepped Scanning Marking ∷ [];
  appended = told;
  steps = λ store c. let r = starts heap store c scanning in (r.later, r.step, r.stands);
}

visits_setup : (heap : HeapParts) (ps : List ℕ) (new : HeapParts) → PlaceVisits heap ps new → new.setup ≡ heap.setup
visits_setup heap ps new (NoPlace _) = refl
visits_setup heap ps new (PassesPlace _ p rest _ _ e flag more) = visits_setup _ ps new more
visits_setup heap _ new (VisitsPlace _ p rest ps _ e flag more) = visits_setup _ ps new more

pub marks_on_major : (heap : HeapParts) (ps : List ℕ) (new : HeapParts) (before after : List Line) → heap.phase ≡ Marking → PlaceVisits heap ps new
    → sum_by (words_at heap.setup.types (word_in heap)) (take (length ps - 1) ps) < heap.setup.settings.increment
    → heap.setup.settings.increment ≤ sum_by (words_at heap.setup.types (word_in heap)) ps
    → after ≡ before ++ (Stepped Marking Marking ∷ visited_lines heap ps) → StepsMajor heap new before after
marks_on_major heap ps new before after marking chain few enough told = record {
  setup = visits_setup heap ps new chain;
  lines = Stepped Marking Marking ∷ visited_lines heap ps;
  appended = told;
  steps = λ store c. let r = marks_on heap store c marking ps new chain few enough in (r.later, r.step, r.stands);
}

pub sweeps_major : (heap : HeapParts) (n : ℕ) (new : Old) (memory : Memory) (births sorted : List ℕ) (before after : List Line) → heap.phase ≡ Sweeping
    → n ≡ min heap.setup.settings.sweep (units_left heap.old_blocks) → Sweeps SweepsLowest n heap.old_blocks heap.memory new memory births
    → IsPermutation births sorted → IsNonDecreasing sorted
    → after ≡ before ++ (Stepped Sweeping (phase_left heap.setup.settings.sweep (units_left heap.old_blocks)) ∷ map (λ b. Freed b) sorted)
    → StepsMajor heap (in_phase (swept_parts heap memory new births) (phase_left heap.setup.settings.sweep (units_left heap.old_blocks))) before after
sweeps_major heap n new memory births sorted before after sweeping count steps same order told = record {
  setup = refl;
  lines = Stepped Sweeping (phase_left heap.setup.settings.sweep (units_left heap.old_blocks)) ∷ map (λ b. Freed b) sorted;
  appended = told;
  steps = λ store c. let r = sweeps heap store c sweeping n new memory births sorted count steps same order in (r.later, r.step, r.stands);
}

pub finalizes_major : (heap : HeapParts) (before after : List Line) → heap.phase ≡ Finalizing → after ≡ before ++ final_lines heap → StepsMajor heap (final_parts heap) before after
finalizes_major heap before after finalizing told = record {
  setup = refl;
  lines = final_lines heap;
  appended = told;
  steps = λ store c. let r = finalizes heap store c finalizing in (r.later, r.step, r.stands);
}
