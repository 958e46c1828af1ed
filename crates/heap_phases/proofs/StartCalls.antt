-- Marking starts, as the code does it.
use Rattle.std.proofs.Common.{◌≡◌, ℕ, Bool, List, [], ◌∷◌, ◌++◌, map, append_assoc, sym, ap, ap₂, ◌∙◌, subst, refl}
use Rattle.std.specs.Prelude.{not, flat_map}
use Rattle.text_model.specs.declared.line.Line.{Line}
use Rattle.text_model.specs.declared.line.Line.TheVariants.{Stepped}
use Rattle.text_model.specs.declared.line.Phase.{Phase}
use Rattle.text_model.specs.declared.line.Phase.TheVariants.{Scanning, Marking}
use Rattle.store_model.specs.Store.{Store}
use Rattle.heap_parts.specs.Parts.{HeapParts, pinned_places}
use Rattle.heap_parts.specs.Places.{is_young, old_places}
use Rattle.heap_parts.specs.Lists.{named_entries}
use Rattle.store_model.specs.Structs.{forced_objects}
use Rattle.store_model.specs.Sound.{IsPhaseSound}
use Rattle.std.proofs.lemmas.List.{append-nil}
use Rattle.std.proofs.lemmas.List.Elements.{filter-append}
use Rattle.heap_parts.specs.Order.{IsGrayOf}
use Rattle.heap_parts.specs.StandsFor.{PartsStandFor}
use Rattle.heap_parts.specs.Collects.{StepsMajor}
use Rattle.frame_laws.proofs.Filters.{filter_none}
use Rattle.frame_laws.proofs.PlaceLaws.{young-is_in}
use Rattle.heap_phases.specs.Steps.{CanStep, CanQueue}
use Rattle.heap_phases.specs.Visiting.{QueuesRoots, old_roots, with_gray}
use Rattle.heap_phases.proofs.SweepSteps.{in_phase}
use Rattle.heap_phases.proofs.StepContracts.{starts_major}

-- the pinned objects lie in the nursery, and none is chosen before the cycle comes to its end
pub can_queue : (heap : HeapParts) (store : Store) → PartsStandFor heap store → store.chosen ≡ [] → CanQueue heap
can_queue heap store s none = record {
  chosen = unnamed heap.chosen (sym s.finalizers.chosen_are.named ∙ none);
  pins = filter_none (λ q. not (is_young q)) (pinned_places heap) (λ p t. ap not (young-is_in s.places p (s.pins.there p t)).1);
}
  where
    unnamed : (es : List (ℕ × ℕ)) → named_entries s.name es ≡ [] → es ≡ []
    unnamed [] e = refl
    unnamed (x ∷ es) e = absurd (let no : ⊥ = cc in no)

-- none is chosen in these phases
pub none_chosen_scanning : (heap : HeapParts) (store : Store) → PartsStandFor heap store → heap.phase ≡ Scanning → store.chosen ≡ []
none_chosen_scanning heap store s scanning =
    let p : IsPhaseSound Scanning heap.setup.settings.sweep store = subst (λ (ph : Phase). IsPhaseSound ph heap.setup.settings.sweep store) (s.counts.phase_is ∙ scanning) s.sound.phase in p.1

pub none_chosen_marking : (heap : HeapParts) (store : Store) → PartsStandFor heap store → heap.phase ≡ Marking → store.chosen ≡ []
none_chosen_marking heap store s marking =
    let p : IsPhaseSound Marking heap.setup.settings.sweep store = subst (λ (ph : Phase). IsPhaseSound ph heap.setup.settings.sweep store) (s.counts.phase_is ∙ marking) s.sound.phase in p.1

-- the roots as the code lists them: what waits for finalizers before what was chosen, and none was
pub roots_listed : (heap : HeapParts) (gray second gray2 gray3 : List ℕ) (chosen queued : List ℕ) → CanQueue heap → chosen ≡ map (λ e. e.0) heap.chosen → queued ≡ flat_map (λ q. q.1) heap.queues
    → second ≡ (queued ++ chosen) ++ forced_objects heap.links.structs → gray2 ≡ gray ++ old_places heap.slots → gray3 ≡ gray2 ++ old_places second → gray3 ≡ gray ++ old_roots heap
roots_listed heap gray second gray2 gray3 chosen queued can a b c d e =
    let test : ℕ → Bool = λ q. not (is_young q) in
    let none : map (λ (x : ℕ × ℕ). x.0) heap.chosen ≡ [] = ap (map (λ (x : ℕ × ℕ). x.0)) can.chosen in
    let waiting : second ≡ flat_map (λ (q : ℕ × List ℕ). q.1) heap.queues ++ forced_objects heap.links.structs =
    c ∙ ap₂ (λ (xs ys : List ℕ). (xs ++ ys) ++ forced_objects heap.links.structs) b (a ∙ none) ∙ ap (λ (xs : List ℕ). xs ++ forced_objects heap.links.structs) (append-nil (flat_map (λ (q : ℕ × List ℕ). q.1) heap.queues)) in
    let rest : old_places (map (λ (x : ℕ × ℕ). x.0) heap.pins ++ (map (λ (x : ℕ × ℕ). x.0) heap.chosen ++ (flat_map (λ (q : ℕ × List ℕ). q.1) heap.queues ++ forced_objects heap.links.structs)))
    ≡ old_places (flat_map (λ (q : ℕ × List ℕ). q.1) heap.queues ++ forced_objects heap.links.structs) =
    filter-append test (pinned_places heap) _ ∙ (ap (λ (xs : List ℕ). xs ++ old_places (map (λ (x : ℕ × ℕ). x.0) heap.chosen ++ (flat_map (λ (q : ℕ × List ℕ). q.1) heap.queues ++ forced_objects heap.links.structs))) can.pins
    ∙ ap (λ (xs : List ℕ). old_places (xs ++ (flat_map (λ (q : ℕ × List ℕ). q.1) heap.queues ++ forced_objects heap.links.structs))) none) in
    e ∙ (ap₂ (λ (xs ys : List ℕ). xs ++ old_places ys) d waiting ∙ (append_assoc gray (old_places heap.slots) _
    ∙ ap (λ (xs : List ℕ). gray ++ xs) (ap (λ (xs : List ℕ). old_places heap.slots ++ xs) (sym rest) ∙ sym (filter-append test heap.slots _))))

-- nothing is gray before marking starts
none_gray : (heap : HeapParts) → CanStep heap → heap.phase ≡ Scanning → heap.gray ≡ []
none_gray heap can scanning = subst (λ (phase : Phase). IsGrayOf phase heap.gray) scanning can.collected.stands.gray_phase

-- so only the roots are afterwards
pub roots_queued : (heap mid : HeapParts) → CanStep heap → heap.phase ≡ Scanning → mid ≡ with_gray heap (heap.gray ++ old_roots heap) → QueuesRoots heap mid
roots_queued heap mid can scanning queued = ap (λ (h : HeapParts). h.gray) queued ∙ ap (λ (gs : List ℕ). gs ++ old_roots heap) (none_gray heap can scanning)

pub start_major : (heap mid : HeapParts) (before after : List Line) → CanStep heap → heap.phase ≡ Scanning → mid ≡ with_gray heap (heap.gray ++ old_roots heap)
    → after ≡ before ++ (Stepped Scanning Marking ∷ []) → StepsMajor heap (in_phase mid Marking) before after
start_major heap mid before after can scanning queued told =
    let only : mid ≡ with_gray heap (old_roots heap) = queued ∙ ap (λ (gs : List ℕ). with_gray heap (gs ++ old_roots heap)) (none_gray heap can scanning) in
    subst (λ (h : HeapParts). StepsMajor heap (in_phase h Marking) before after) (sym only)
    (starts_major heap before after scanning told)
