use Rattle.std.proofs.Common.{sym, subst}
use Rattle.heap_parts.specs.Parts.{HeapParts}
use Rattle.heap_parts.specs.contracts.parts.Parts.{the_view}
use Rattle.heap_phases.specs.Budget.{CanMark, MarksPlaces}
use Rattle.heap_phases.proofs.MarkCalls.{marks_places, with_marks}
use Rattle.heap_phases.proofs.marking.mark.Goals as goal

pub returns : goal.returns
returns c =
    let heap : HeapParts = the_view c.parts.inside in
    subst (λ (h : HeapParts). MarksPlaces c.args.budget h (with_marks heap c.mark.new.space c.mark.new.self) c.args.visited.now.items c.mark.new.visited.items c.in_ok-end.end) c.parts.view_is
    (marks_places heap c.args.budget c.mark.new.space c.mark.new.self c.args.visited.now.items c.mark.new.visited.items c.in_ok-end.end
    (subst CanMark (sym c.parts.view_is) c.requires.can) c.in_ok-end.ensures.ok)
