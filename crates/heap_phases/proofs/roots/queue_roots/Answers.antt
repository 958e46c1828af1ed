use Rattle.std.proofs.Common.{◌≡◌, ℕ, List, ◌++◌, ap, ◌∙◌, subst, sym}
use Rattle.finalizer_order.specs.Finalizers.{places_of, queued_entries}
use Rattle.store_model.specs.Structs.{forced_objects}
use Rattle.heap_parts.specs.Parts.{HeapParts}
use Rattle.heap_parts.specs.Places.{old_places}
use Rattle.heap_parts.specs.contracts.parts.Parts.{the_view}
use Rattle.heap_phases.specs.Steps.{CanQueue}
use Rattle.heap_phases.specs.Visiting.{old_roots, with_gray}
use Rattle.heap_phases.proofs.ChooseCalls.{places_shown, queues_shown}
use Rattle.heap_phases.proofs.StartCalls.{roots_listed}
use Rattle.heap_phases.proofs.roots.queue_roots.Goals as goal

pub returns : goal.returns
returns c =
    let heap : HeapParts = the_view c.parts.inside in
    let listed : c.push_old-2.new.gray ≡ heap.gray ++ old_roots heap =
    roots_listed heap heap.gray c.forced.new.places.items c.push_old.new.gray c.push_old-2.new.gray (places_of c.parts.inside.finals.chosen) (places_of (queued_entries c.parts.inside.finals.queues))
    (subst CanQueue (sym c.parts.view_is) c.requires) (places_shown c.parts.inside.finals.chosen) (queues_shown c.parts.inside.finals.queues)
    (c.in_ok-forced.ensures.ok ∙ ap (λ (xs : List ℕ). xs ++ forced_objects heap.links.structs)
    (c.in_ok-waiting_places.ensures.ok ∙ ap (λ (xs : List ℕ). xs ++ (places_of (queued_entries c.parts.inside.finals.queues) ++ places_of c.parts.inside.finals.chosen)) c.clear.ensures.items))
    (c.in_ok-push_old.ensures ∙ ap (λ (xs : List ℕ). heap.gray ++ old_places xs) c.deref.ensures.value)
    (c.in_ok-push_old-2.ensures ∙ ap (λ (xs : List ℕ). c.push_old.new.gray ++ old_places xs) c.deref-2.ensures.value) in
    ap (λ (gs : List ℕ). with_gray heap gs) listed ∙ ap (λ (h : HeapParts). with_gray h (h.gray ++ old_roots h)) c.parts.view_is
