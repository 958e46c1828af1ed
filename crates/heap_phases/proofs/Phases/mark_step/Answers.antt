use Rattle.std.proofs.Common.{ℕ, Bool, true, false, List, ◌∷◌, ◌++◌, map, ap₂, ◌∙◌, subst}
use Rattle.std.specs.Prelude.{if◌then◌else◌}
use Rattle.text_model.specs.declared.line.Line.TheVariants.{Stepped, Visited}
use Rattle.text_model.specs.declared.line.Phase.TheVariants.{Marking, Sweeping}
use Rattle.heap_phases.specs.Budget.{VisitsWithin}
use Rattle.heap_phases.proofs.DeadCalls.{on_ok, if_ok}
use Rattle.heap_phases.proofs.MarkMajor.{goes_major, end_major, can_end, visits_counted, ends_after}
use Rattle.heap_phases.proofs.Phases.mark_step.Goals as goal

pub returns-then-goes_on-clause-steps : goal.returns-then-goes_on-clause-steps
returns-then-goes_on-clause-steps c =
    let births : List ℕ = c.visit.new.visited.items in
    let v : VisitsWithin c.args.parts.now c.visit.new.parts births true = subst (λ (b : Bool). VisitsWithin c.args.parts.now c.visit.new.parts births b) c.if-goes_on.true c.in_ok-goes_on.ensures in
    goes_major c.args.parts.now c.visit.new.parts births c.args.events.now.items c.tell_visits.new.events.items c.requires.phase c.requires.can v
    (c.in_ok-tell_visits.ensures ∙ ap₂ (λ (b : Bool) (bs : List ℕ). c.args.events.now.items ++ (Stepped Marking (if b then Marking else Sweeping) ∷ map (λ x. Visited x) bs)) c.if-goes_on.true c.deref.ensures.value)

pub returns-then-goes_on-clause-counts : goal.returns-then-goes_on-clause-counts
returns-then-goes_on-clause-counts c =
    let births : List ℕ = c.visit.new.visited.items in
    visits_counted c.args.parts.now c.visit.new.parts births (subst (λ (b : Bool). VisitsWithin c.args.parts.now c.visit.new.parts births b) c.if-goes_on.true c.in_ok-goes_on.ensures)

pub end_marking-requires : goal.end_marking-requires
end_marking-requires c =
    let births : List ℕ = c.visit.new.visited.items in
    let v : VisitsWithin c.args.parts.now c.visit.new.parts births false = subst (λ (b : Bool). VisitsWithin c.args.parts.now c.visit.new.parts births b) c.if-goes_on.false c.in_ok-goes_on.ensures in
    can_end c.args.parts.now c.visit.new.parts births c.requires.phase v c.requires.can

pub returns-clause-steps : goal.returns-clause-steps
returns-clause-steps c =
    let births : List ℕ = c.visit.new.visited.items in
    let v : VisitsWithin c.args.parts.now c.visit.new.parts births false = subst (λ (b : Bool). VisitsWithin c.args.parts.now c.visit.new.parts births b) c.if-goes_on.false c.in_ok-goes_on.ensures in
    on_ok c.end_marking.result
    (end_major c.args.parts.now c.visit.new.parts births c.requires.phase v c.end_marking.new.parts c.args.events.now.items c.tell_visits.new.events.items c.end_marking.new.events.items c.requires.can
    (c.in_ok-tell_visits.ensures ∙ ap₂ (λ (b : Bool) (bs : List ℕ). c.args.events.now.items ++ (Stepped Marking (if b then Marking else Sweeping) ∷ map (λ x. Visited x) bs)) c.if-goes_on.false c.deref.ensures.value))
    c.end_marking.ensures.ends

pub returns-clause-counts : goal.returns-clause-counts
returns-clause-counts c =
    let births : List ℕ = c.visit.new.visited.items in
    let v : VisitsWithin c.args.parts.now c.visit.new.parts births false = subst (λ (b : Bool). VisitsWithin c.args.parts.now c.visit.new.parts births b) c.if-goes_on.false c.in_ok-goes_on.ensures in
    if_ok c.end_marking.result (λ end counted. ends_after c.args.parts.now c.visit.new.parts c.end_marking.new.parts births end v counted) c.end_marking.ensures.counts
