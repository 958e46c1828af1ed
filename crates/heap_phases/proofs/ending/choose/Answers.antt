use Rattle.std.proofs.Common.{ℕ, List, ◌++◌, map, ap, ◌∙◌, subst, sym}
use Rattle.finalizer_order.specs.Choosing.{CanChoose, Keeps}
use Rattle.finalizer_order.specs.Finalizers.{places_of}
use Rattle.text_model.specs.declared.line.Line.TheVariants.{Kept}
use Rattle.heap_parts.specs.Parts.{HeapParts}
use Rattle.heap_parts.specs.contracts.parts.Parts.{the_view}
use Rattle.heap_phases.specs.Ending.{CanChooseIn, ChoosesFinals}
use Rattle.heap_phases.proofs.ChooseCalls.{chooses_shown, places_shown, with_chosen_finals}
use Rattle.heap_phases.proofs.ending.choose.Goals as goal

pub choose-requires : goal.choose-requires
choose-requires c =
    let heap : HeapParts = the_view c.parts.inside in
    subst (λ (ps : List ℕ). CanChoose heap.memory heap.setup.types heap.nursery.words ps) (sym (places_shown c.parts.inside.finals.registered)) (subst CanChooseIn (sym c.parts.view_is) c.requires)

pub returns : goal.returns
returns c =
    let heap : HeapParts = the_view c.parts.inside in
    subst (λ (h : HeapParts). ChoosesFinals h (with_chosen_finals heap c.choose.new.self c.choose.new.space) c.args.events.now.items c.tell_kept.new.events.items) c.parts.view_is
    (chooses_shown heap c.parts.inside.finals c.choose.new.self c.choose.new.space c.choose.new.kept.items c.args.events.now.items c.tell_kept.new.events.items c.in_ok-choose.ensures.chosen
    (subst (λ (xs : List ℕ). Keeps heap.setup.types heap.nursery.words (places_of c.parts.inside.finals.registered) heap.memory c.choose.new.space xs c.choose.new.kept.items) c.clear.ensures.items c.in_ok-choose.ensures.kept)
    (c.in_ok-tell_kept.ensures ∙ ap (λ (bs : List ℕ). c.args.events.now.items ++ map (λ b. Kept b) bs) c.deref.ensures.value))
