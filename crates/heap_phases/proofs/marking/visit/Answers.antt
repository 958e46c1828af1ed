use Rattle.std.proofs.Common.{ℕ, sym, ap, subst}
use Rattle.std.specs.Prelude.{◌-◌}
use Rattle.heap_parts.specs.Parts.{HeapParts}
use Rattle.heap_phases.specs.Budget.{CanMark, MarksPlaces}
use Rattle.heap_phases.proofs.MarkCalls.{can_mark}
use Rattle.heap_phases.proofs.VisitCalls.{marks_first, may_queue, may_mark, visit_ends}
use Rattle.heap_phases.proofs.marking.visit.Goals as goal

pub mark-requires-clause-can : goal.mark-requires-clause-can
mark-requires-clause-can c = can_mark c.args.parts.now c.requires.can.store c.requires.can.collected.stands

pub queue_roots-requires : goal.queue_roots-requires
queue_roots-requires c =
    may_queue c.args.parts.now c.requires.can c.requires.phase c.mark.new.parts c.mark.new.visited.items c.in-Empty.words
    (marks_first c.args.parts.now c.mark.new.parts _ c.args.visited.now.items c.mark.new.visited.items _ c.in-Empty.words c.in_ok-words.ensures
    (ap (λ (h : HeapParts). h.setup.settings.increment) c.parts.view_is) c.requires.none c.in-Empty.is)

pub mark-requires-2-clause-can : goal.mark-requires-2-clause-can
mark-requires-2-clause-can c =
    subst CanMark (sym c.in_ok-queue_roots.ensures)
    (may_mark c.args.parts.now c.requires.can c.requires.phase c.mark.new.parts c.mark.new.visited.items c.in-Empty.words
    (marks_first c.args.parts.now c.mark.new.parts _ c.args.visited.now.items c.mark.new.visited.items _ c.in-Empty.words c.in_ok-words.ensures
    (ap (λ (h : HeapParts). h.setup.settings.increment) c.parts.view_is) c.requires.none c.in-Empty.is))

pub returns : goal.returns
returns c =
    visit_ends c.args.parts.now c.requires.can c.requires.phase c.mark.new.parts c.mark.new.visited.items c.in-Empty.words
    (marks_first c.args.parts.now c.mark.new.parts _ c.args.visited.now.items c.mark.new.visited.items _ c.in-Empty.words c.in_ok-words.ensures
    (ap (λ (h : HeapParts). h.setup.settings.increment) c.parts.view_is) c.requires.none c.in-Empty.is)
    c.queue_roots.new.parts c.mark-2.new.parts c.mark-2.new.visited.items c.in_ok-end.end _ c.in_ok-queue_roots.ensures
    (subst (λ (n : ℕ). MarksPlaces (n - c.in-Empty.words) c.queue_roots.new.parts c.mark-2.new.parts c.mark.new.visited.items c.mark-2.new.visited.items c.in_ok-end.end)
    (ap (λ (h : HeapParts). h.setup.settings.increment) c.parts.view_is) c.in_ok-end.ensures) c.has_reached.ensures
