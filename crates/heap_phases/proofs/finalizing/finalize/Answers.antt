use Rattle.std.proofs.Common.{◌≡◌, ℕ, List, [], ◌∷◌, ◌++◌, map, sym, ap, ◌∙◌, subst}
use Rattle.heap_space.specs.Extents.{Extent}
use Rattle.finalizer_order.specs.Finalizers.{Finalizers, placed}
use Rattle.text_model.specs.declared.line.Line.{Line}
use Rattle.text_model.specs.declared.line.Line.TheVariants.{Stepped, ThresholdIs}
use Rattle.text_model.specs.declared.line.Phase.TheVariants.{Scanning, Finalizing}
use Rattle.heap_parts.specs.Parts.{HeapParts}
use Rattle.heap_parts.specs.Collects.{StepsMajor}
use Rattle.heap_parts.specs.contracts.parts.Parts.{the_view}
use Rattle.heap_phases.specs.Ending.{HoldObjects, queued_line}
use Rattle.heap_phases.specs.Steps.{CanStep}
use Rattle.heap_phases.proofs.BoundCalls.{leaves_none}
use Rattle.heap_phases.proofs.ChooseCalls.{with_chosen_finals}
use Rattle.heap_phases.proofs.FinalCalls.{finalizes_all, chosen_objects, flushed_shown}
use Rattle.heap_phases.proofs.finalizing.finalize.Goals as goal

pub tell_queued-requires : goal.tell_queued-requires
tell_queued-requires c =
    let heap : HeapParts = the_view c.parts.inside in
    let listed : c.deref.result.now ≡ heap.chosen = c.deref.ensures.value ∙ (c.in_ok-flush.ensures.told ∙ ap (λ (xs : List (ℕ × ℕ)). xs ++ placed c.parts.inside.finals.chosen) c.clear.ensures.items) in
    subst (λ (xs : List Extent). HoldObjects heap.memory heap.setup.types xs) (sym listed) (chosen_objects heap (subst CanStep (sym c.parts.view_is) c.requires.can))

pub returns-clause-steps : goal.returns-clause-steps
returns-clause-steps c =
    let heap : HeapParts = the_view c.parts.inside in
    let listed : c.deref.result.now ≡ heap.chosen = c.deref.ensures.value ∙ (c.in_ok-flush.ensures.told ∙ ap (λ (xs : List (ℕ × ℕ)). xs ++ placed c.parts.inside.finals.chosen) c.clear.ensures.items) in
    let shown = ap (λ (f : Finalizers). with_chosen_finals heap f heap.memory) c.in_ok-flush.ensures.flushed ∙ flushed_shown heap c.parts.inside.finals in
    subst (λ (h : HeapParts). StepsMajor h (record (with_chosen_finals heap c.flush.new.self heap.memory) { phase = Scanning; threshold = c.next_threshold-threshold.result }) c.args.events.now.items c.push-2.new.self.items) c.parts.view_is
    (subst (λ (h : HeapParts). StepsMajor heap (record h { phase = Scanning; threshold = c.next_threshold-threshold.result }) c.args.events.now.items c.push-2.new.self.items) (sym shown)
    (finalizes_all heap c.next_threshold-threshold.result c.args.events.now.items c.push-2.new.self.items (ap (λ (h : HeapParts). h.phase) c.parts.view_is ∙ c.requires.phase)
    c.next_threshold-threshold.ensures
    (c.in_ok-push-2.ensures.items ∙ ap (λ (ls : List Line). ls ++ ThresholdIs c.next_threshold-threshold.result ∷ [])
    (c.in_ok-tell_queued.ensures ∙ (ap (λ (ls : List Line). ls ++ map (queued_line heap.memory) c.deref.result.now) c.in_ok-push.ensures.items ∙ ap (λ (xs : List Extent). (c.args.events.now.items ++ (Stepped Finalizing Scanning ∷ [])) ++ map (queued_line heap.memory) xs) listed)))))

pub returns-clause-none_left : goal.returns-clause-none_left
returns-clause-none_left c = leaves_none c.args.parts.now _ c.requires.can c.requires.phase (ap (λ (h : HeapParts). h.husk_list) c.parts.view_is)
