use Rattle.std.proofs.Common.{ℕ, ◌++◌, List, map, sym, ap, ap₂, ◌∙◌, subst, arith}
use Rattle.std.specs.Prelude.{not, min}
use Rattle.old_space.specs.Sweeping.{SweepsLowest, units_left}
use Rattle.sweep_steps.specs.Steps.{HasSwept}
use Rattle.object_model.specs.Sets.{is_in}
use Rattle.text_model.specs.declared.line.Line.{Line}
use Rattle.text_model.specs.declared.line.Line.TheVariants.{Freed}
use Rattle.store_model.specs.Sweeping.{husks_where}
use Rattle.heap_parts.specs.Parts.{HeapParts}
use Rattle.heap_parts.specs.Collects.{StepsMajor}
use Rattle.heap_parts.specs.contracts.parts.Parts.{the_view}
use Rattle.heap_phases.specs.Steps.{CanStep, CountsHusks}
use Rattle.heap_phases.specs.Swept.{freed_words}
use Rattle.heap_phases.proofs.SweepCalls.{AreLeft, left_by, sweep_major, sweep_counts, can_sweep, husks_few, husks_rise, freed_few}
use Rattle.heap_phases.specs.Bounds.{SweepsUnits}
use Rattle.heap_phases.proofs.BoundCalls.{sweeps_units}
use Rattle.heap_phases.proofs.sweeping.sweep_step.Goals as goal

pub sweep-requires : goal.sweep-requires
sweep-requires c = can_sweep (the_view c.parts.inside) (subst CanStep (sym c.parts.view_is) c.requires.can)

pub drop_husks-words-requires-clause-rise : goal.drop_husks-words-requires-clause-rise
drop_husks-words-requires-clause-rise c = husks_rise (the_view c.parts.inside) (subst CanStep (sym c.parts.view_is) c.requires.can)

pub overflow_sub-parts : goal.overflow_sub-parts
overflow_sub-parts c =
    let heap : HeapParts = the_view c.parts.inside in
    let few = husks_few heap (subst CanStep (sym c.parts.view_is) c.requires.can) in
    let some = freed_few heap.husk_list c.deref.result.now in omega (arith, few.0, some, c.drop_husks-words.ensures.words)

pub returns-clause-steps : goal.returns-clause-steps
returns-clause-steps c =
    let heap : HeapParts = the_view c.parts.inside in
    let freed : List ℕ = c.sweep.new.freed.items in
    let left : AreLeft heap freed c.in_ok-state.state c.drop_husks-words.result c.drop_husks-words.new.husks.entries c.phase_after-parts-inside.result = record {
      words_are = c.drop_husks-words.ensures.words ∙ ap (freed_words heap.husk_list) c.deref.ensures.value;
      husks_are = c.drop_husks-words.ensures.left ∙ ap (λ (xs : List ℕ). husks_where heap.husk_list (λ x. not (is_in x xs))) c.deref.ensures.value;
      phase_is = c.phase_after-parts-inside.ensures;
    } in
    subst (λ (h : HeapParts). StepsMajor h (left_by heap c.sweep.new.space c.sweep.new.s c.drop_husks-words.result c.drop_husks-words.new.husks.entries c.phase_after-parts-inside.result) c.args.events.now.items c.tell_freed.new.events.items)
    c.parts.view_is
    (sweep_major heap c.sweep.new.s c.sweep.new.space freed c.in_ok-state.state _ _ _ left c.args.events.now.items c.tell_freed.new.events.items
    (ap (λ (h : HeapParts). h.phase) c.parts.view_is ∙ c.requires.phase)
    (subst (λ (xs : List ℕ). HasSwept SweepsLowest (min heap.setup.settings.sweep (units_left heap.old_blocks)) heap.old_blocks heap.memory c.sweep.new.s c.sweep.new.space xs freed) c.clear.ensures.items c.in_ok-state.ensures.swept)
    c.in_ok-state.ensures.less c.in_ok-state.ensures.finished
    (c.in_ok-tell_freed.ensures ∙ ap₂ (λ (ls : List Line) (bs : List ℕ). ls ++ map (λ b. Freed b) bs) c.in_ok-push.ensures.items c.deref-2.ensures.value))

pub returns-clause-counts : goal.returns-clause-counts
returns-clause-counts c =
    let heap : HeapParts = the_view c.parts.inside in
    let freed : List ℕ = c.sweep.new.freed.items in
    let left : AreLeft heap freed c.in_ok-state.state c.drop_husks-words.result c.drop_husks-words.new.husks.entries c.phase_after-parts-inside.result = record {
      words_are = c.drop_husks-words.ensures.words ∙ ap (freed_words heap.husk_list) c.deref.ensures.value;
      husks_are = c.drop_husks-words.ensures.left ∙ ap (λ (xs : List ℕ). husks_where heap.husk_list (λ x. not (is_in x xs))) c.deref.ensures.value;
      phase_is = c.phase_after-parts-inside.ensures;
    } in
    subst (λ (h : HeapParts). CountsHusks h (left_by heap c.sweep.new.space c.sweep.new.s c.drop_husks-words.result c.drop_husks-words.new.husks.entries c.phase_after-parts-inside.result) (record { husk_words = 0; freed_words = c.drop_husks-words.result })) c.parts.view_is
    (sweep_counts heap c.sweep.new.s c.sweep.new.space freed c.in_ok-state.state _ _ _ left (subst CanStep (sym c.parts.view_is) c.requires.can))

pub returns-clause-units : goal.returns-clause-units
returns-clause-units c =
    let heap : HeapParts = the_view c.parts.inside in
    subst (λ (h : HeapParts). SweepsUnits h (left_by heap c.sweep.new.space c.sweep.new.s c.drop_husks-words.result c.drop_husks-words.new.husks.entries c.phase_after-parts-inside.result)) c.parts.view_is
    (sweeps_units heap _ c.in_ok-state.state c.in_ok-state.ensures.less c.phase_after-parts-inside.ensures c.in_ok-state.ensures.finished)
