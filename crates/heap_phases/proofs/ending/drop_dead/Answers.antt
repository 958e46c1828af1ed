use Rattle.std.proofs.Common.{ℕ, List, ap, ap₂, ◌∙◌}
use Rattle.store_model.specs.Structs.{Structs}
use Rattle.remember_cards.specs.Remembered.{Remembered}
use Rattle.heap_parts.specs.Parts.{HeapParts}
use Rattle.heap_parts.specs.contracts.parts.Parts.{the_view}
use Rattle.heap_phases.specs.Ending.{without_places}
use Rattle.heap_phases.proofs.ending.drop_dead.Goals as goal

pub returns-clause-dropped : goal.returns-clause-dropped
returns-clause-dropped c =
    let heap : HeapParts = the_view c.parts.inside in
    ap₂ (λ (ws : List ℕ) (r : Remembered). record heap { remembered = r; weaks = ws; links = c.cut_dead.new.self }) c.drop_dead.ensures c.drop_dead-2.ensures.remembered
    ∙ (ap (λ (ls : Structs). record (without_places heap c.args.dead.now) { links = ls }) c.in_ok-cut_dead.ensures.cut
    ∙ ap (λ (h : HeapParts). without_places h c.args.dead.now) c.parts.view_is)
