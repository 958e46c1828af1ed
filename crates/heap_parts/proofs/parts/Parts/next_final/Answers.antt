use Rattle.std.proofs.Common.{ap, ◌∙◌}
use Rattle.finalizer_order.specs.Finalizers.{Finalizers}
use Rattle.parts_model.specs.Parts.{HeapParts}
use Rattle.parts_model.specs.Registers.{next_place, without_next}
use Rattle.heap_parts.specs.contracts.parts.Parts.{the_view}
use Rattle.heap_parts.proofs.FinalLaws.{with_finals, first_shown, taken_shown}
use Rattle.heap_parts.proofs.parts.Parts.next_final.Goals as goal

pub returns-clause-first : goal.returns-clause-first
returns-clause-first c =
    c.next.ensures.first ∙ (first_shown (the_view c.self.inside) c.self.inside.finals c.args.queue ∙ ap (λ (h : HeapParts). next_place h c.args.queue) c.self.view_is)

pub returns-clause-taken : goal.returns-clause-taken
returns-clause-taken c =
    let before : HeapParts = the_view c.self.inside in
    ap (λ (f : Finalizers). with_finals before f) c.next.ensures.taken
    ∙ (taken_shown before c.self.inside.finals c.args.queue ∙ ap (λ (h : HeapParts). without_next h c.args.queue) c.self.view_is)
