-- The kinds of major step, each for every store right after a minor collection: what the code must have done, and what follows.
use Rattle.object_model.proofs.Members.{is_in-head, is_in-tail}
use Rattle.std.proofs.Common.{◌≡◌, ℕ, ◌+◌, IsTrue, List, [], ◌∷◌, ◌++◌, map, refl, sym, ap, ap₂, ◌∙◌, subst}
use Rattle.std.specs.Prelude.{min}
use Rattle.std.specs.List.Sorted.{IsPermutation, IsNonDecreasing}
use Rattle.heap_space.specs.Memory.{Memory}
use Rattle.old_space.specs.Sweeping.{SweepsLowest, units_left}
use Rattle.old_space.specs.declared.Old.{Old}
use Rattle.sweep_steps.specs.Steps.{Sweeps}
use Rattle.text_model.specs.declared.line.Line.{Line}
use Rattle.text_model.specs.declared.line.Line.TheVariants.{Stepped, Freed, Queued, ThresholdIs}
use Rattle.text_model.specs.declared.line.Phase.{Phase}
use Rattle.text_model.specs.declared.line.Phase.TheVariants.{Scanning, Marking, Sweeping, Finalizing}
use Rattle.object_model.specs.declared.settings.Settings.{Settings}
use Rattle.store_model.specs.Store.{Store, old_words}
use Rattle.object_model.specs.Sets.{is_in}
use Rattle.store_model.specs.Marking.{IsMarked, is_condemned, EndOfMarking}
use Rattle.store_model.specs.Sweeping.{after_sweep, after_finalizing, finalizing_lines, next_threshold}
use Rattle.store_model.specs.Collections.{MajorStep, StepFrom}
use Rattle.heap_parts.specs.Parts.{HeapParts, word_in}
use Rattle.heap_parts.specs.OldSpace.{husk_at}
use Rattle.heap_parts.specs.Lists.{named_entries}
use Rattle.heap_parts.specs.StandsFor.{PartsStandFor}
use Rattle.heap_parts.specs.Collects.{AreAllPinned, IsCollected}
use Rattle.heap_phases.specs.EndOfMarking.{marked_parts, with_chosen_births}
use Rattle.heap_phases.specs.Swept.{swept_parts}
use Rattle.store_model.proofs.TestsExist.{reached_test, retained_test, saved_test}
use Rattle.heap_phases.proofs.StartStands.{marking_parts, start_stands}
use Rattle.store_model.proofs.StartSound.{started_marking}
use Rattle.heap_phases.proofs.FinalStands.{final_parts, final_stands}
use Rattle.heap_phases.proofs.SweepSteps.{in_phase, phase_left, step_stands, sweeping_step}
use Rattle.heap_phases.proofs.EndWords.{losing}
use Rattle.heap_phases.proofs.EndStands.{end_of_marking}
use Rattle.heap_phases.proofs.EndLines.{TellsEnd, end_is_told}
use Rattle.heap_phases.proofs.EndCalls.{MarksEnd, BeganSweep, marking_blocks, ends_marking}
use Rattle.store_model.proofs.ChosenTest.{found_births, finds_chosen}
use Rattle.heap_phases.specs.Visiting.{old_roots}
use Rattle.heap_phases.proofs.RootPlaces.{old_roots_named, old_roots_there}

-- what a step leads to
pub record StepsTo (heap : HeapParts) (store : Store) (lines : List Line) (new : HeapParts) : Type 0 where
  pub later : Store
  pub step : MajorStep heap.setup.settings store lines later
  pub stands : PartsStandFor new later

pub in-phase : (phase : Phase) (settings : Settings) (store later : Store) (lines : List Line) → store.phase ≡ phase → StepFrom phase settings store lines later → MajorStep settings store lines later
in-phase phase settings store later lines e step = subst (λ (ph : Phase). StepFrom ph settings store lines later) (sym e) step

-- Marking starts: the settled roots are to be visited.
pub starts : (heap : HeapParts) (store : Store) (c : IsCollected heap store) → heap.phase ≡ Scanning → StepsTo heap store (Stepped Scanning Marking ∷ []) (marking_parts heap (old_roots heap))
starts heap store c scanning =
    let reached = reached_test store in let retained = retained_test store in
    record {
      later = started_marking store reached.test retained.test;
      step = in-phase Scanning heap.setup.settings store (started_marking store reached.test retained.test) (Stepped Scanning Marking ∷ []) (c.stands.counts.phase_is ∙ scanning)
          (record { reached = reached.test; tells_reached = reached.tells; retained = retained.test; tells_retained = retained.tells; printed = refl; leaves = refl });
      stands = start_stands heap store (old_roots heap) c.stands c.pinned scanning reached.test reached.tells retained.test retained.tells
          (old_roots_there heap store c.stands) (old_roots_named heap store c.stands);
    }

-- Some units are swept: so many as the setting says, or all that wait. What was freed is told by rising birth.
pub sweeps : (heap : HeapParts) (store : Store) (c : IsCollected heap store) → heap.phase ≡ Sweeping → (n : ℕ) (new : Old) (memory : Memory) (births sorted : List ℕ)
    → n ≡ min heap.setup.settings.sweep (units_left heap.old_blocks) → Sweeps SweepsLowest n heap.old_blocks heap.memory new memory births
    → IsPermutation births sorted → IsNonDecreasing sorted
    → StepsTo heap store (Stepped Sweeping (phase_left heap.setup.settings.sweep (units_left heap.old_blocks)) ∷ map (λ b. Freed b) sorted)
    (in_phase (swept_parts heap memory new births) (phase_left heap.setup.settings.sweep (units_left heap.old_blocks)))
sweeps heap store c sweeping n new memory births sorted count steps same order =
    let r = step_stands heap store c.stands sweeping c.fresh n new memory births count steps in
    subst (λ (phase : Phase). StepsTo heap store (Stepped Sweeping phase ∷ map (λ b. Freed b) sorted) (in_phase (swept_parts heap memory new births) phase)) (sym r.phase_is) (record {
      later = after_sweep store (λ x. is_in x births) r.phase;
      step = in-phase Sweeping heap.setup.settings store (after_sweep store (λ x. is_in x births) r.phase) (Stepped Sweeping r.phase ∷ map (λ b. Freed b) sorted) (c.stands.counts.phase_is ∙ sweeping)
          (sweeping_step heap store c.stands new memory births sorted r same order);
      stands = r.stands;
    })

-- The cycle ends: what was chosen enters its queues, each told by its birth, and the threshold is set.
abbrev pub final_lines : HeapParts → List Line
final_lines heap = Stepped Finalizing Scanning
    ∷ (map (λ entry. Queued (word_in heap (entry.0 + 1)) entry.1) heap.chosen ++ ThresholdIs (next_threshold heap.setup.settings.minimum heap.old_words heap.threshold) ∷ [])

-- The end of marking: from what clearing and choosing left, what `begin_sweep` did, and what was told.
pub record EndsTo (heap : HeapParts) (store : Store) (lines : List Line) (new : HeapParts) : Type 0 where
  pub later : Store
  pub step : EndOfMarking heap.setup.settings store lines later
  pub stands : PartsStandFor new later

pub ends : (heap : HeapParts) (store : Store) (s : PartsStandFor heap store) → AreAllPinned store → heap.phase ≡ Marking → IsMarked store
    → (lines : List Line) (mid memory : Memory) (old_blocks : Old)
    → MarksEnd heap store s (saved_test heap.setup.settings store s.sound).test mid
    → BeganSweep heap.old_blocks mid old_blocks memory (marking_blocks heap store s)
    → TellsEnd heap store s (saved_test heap.setup.settings store s.sound).test lines
    → EndsTo heap store lines (marked_parts heap memory old_blocks
    (λ p. is_condemned store (saved_test heap.setup.settings store s.sound).test (s.name p))
    (λ p. is_in (s.name p) (found_births store))
    (map (husk_at heap.setup.types (word_in heap)) (losing (is_condemned store (saved_test heap.setup.settings store s.sound).test) s.name s.places))
    (with_chosen_births heap.finals (λ x. is_in x (found_births store))))
ends heap store s pinned marking marked lines mid memory old_blocks marks began told =
    let saved = saved_test heap.setup.settings store s.sound in
    record {
      later = _;
      step = end_is_told heap store s marked saved.test saved.tells (λ x. is_in x (found_births store)) (finds_chosen heap.setup.settings store s.sound) lines told;
      stands = end_of_marking heap store s pinned marking marked saved.test saved.tells (λ x. is_in x (found_births store)) (finds_chosen heap.setup.settings store s.sound) memory old_blocks
          (ends_marking heap store s saved.test mid marks old_blocks memory began);
    }

finals-named : (word name : ℕ → ℕ) (entries : List (ℕ × ℕ)) → ((p : ℕ) → IsTrue (is_in p (map (λ (e : ℕ × ℕ). e.0) entries)) → name p ≡ word (p + 1))
    → map (λ (e : ℕ × ℕ). Queued e.0 e.1) (named_entries name entries) ≡ map (λ (e : ℕ × ℕ). Queued (word (e.0 + 1)) e.1) entries
finals-named word name [] born = refl
finals-named word name (e ∷ entries) born = ap₂ (λ (l : Line) (ls : List Line). l ∷ ls) (ap (λ (x : ℕ). Queued x e.1) (born e.0 (is_in-head e.0 (map (λ (f : ℕ × ℕ). f.0) entries))))
    (finals-named word name entries (λ p t. born p (is_in-tail p e.0 (map (λ (f : ℕ × ℕ). f.0) entries) t)))

pub finalizes : (heap : HeapParts) (store : Store) (c : IsCollected heap store) → heap.phase ≡ Finalizing → StepsTo heap store (final_lines heap) (final_parts heap)
finalizes heap store c finalizing =
    let s = c.stands in
    let queued : map (λ (e : ℕ × ℕ). Queued e.0 e.1) store.chosen ≡ map (λ (e : ℕ × ℕ). Queued (word_in heap (e.0 + 1)) e.1) heap.chosen =
    ap (map (λ (e : ℕ × ℕ). Queued e.0 e.1)) s.finalizers.chosen_are.named
    ∙ finals-named (word_in heap) s.name heap.chosen (λ p t. s.words.objects.named p (s.finalizers.chosen_are.there p t)) in
    let words : heap.old_words ≡ old_words store = s.sums.old_are in
    let lines : final_lines heap ≡ finalizing_lines heap.setup.settings store =
    ap₂ (λ (qs : List Line) (n : ℕ). Stepped Finalizing Scanning ∷ (qs ++ ThresholdIs n ∷ [])) (sym queued)
    (ap₂ (λ (w t : ℕ). next_threshold heap.setup.settings.minimum w t) words (sym s.counts.threshold_is)) in
    record {
      later = after_finalizing heap.setup.settings store;
      step = in-phase Finalizing heap.setup.settings store (after_finalizing heap.setup.settings store) (final_lines heap) (s.counts.phase_is ∙ finalizing) (lines, refl);
      stands = final_stands heap store s finalizing;
    }
