use Rattle.std.proofs.Common.{ℕ, sym, ap, ◌∙◌}
use Rattle.parts_model.specs.Parts.{HeapParts}
use Rattle.parts_model.specs.Registers.{is_final}
use Rattle.parts_model.specs.Told.{if_there}
use Rattle.heap_parts.proofs.FinalLaws.{registered_told}
use Rattle.heap_parts.proofs.parts.Parts.was_registered.Goals as goal

pub returns : goal.returns
returns c =
    let now : HeapParts = c.args.self.now in
    c.was_registered.ensures
    ∙ (registered_told now c.self.inside.finals c.place.result c.in-Some.birth (sym (ap (λ (h : HeapParts). h.finals) c.self.view_is)) (sym c.birth_of.ensures ∙ c.in-Some.is)
    ∙ ap (λ (place : ℕ). if_there place (is_final now place)) c.place.ensures)
