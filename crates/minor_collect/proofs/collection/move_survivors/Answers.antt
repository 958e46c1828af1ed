use Rattle.std.proofs.Common.{◌≡◌, ℕ, List, [], Some, slice_get, length, sym, subst}
use Rattle.remember_cards.specs.declared.Span.{Span}
use Rattle.minor_collect.specs.Calls.{Stage, Drained}
use Rattle.minor_collect.specs.Spans.{CanDrainSpans, DrainedSpans, MaySpan}
use Rattle.minor_collect.proofs.GrowLaws.{adds_twice}
use Rattle.minor_collect.proofs.OnOkLaws.{on_ok, both_ok}
use Rattle.minor_collect.proofs.TraceEnds.{can_take_all, can_lists, stage_of, standing_taken, spans_may, todo_are, survived}
use Rattle.minor_collect.proofs.StartLaws.{standing_begins}
use Rattle.minor_collect.proofs.collection.move_survivors.Goals as goal

pub take_all-requires-clause-take : goal.take_all-requires-clause-take
take_all-requires-clause-take c = can_take_all c.requires.begin

pub follow_roots-requires-clause-follow : goal.follow_roots-requires-clause-follow
follow_roots-requires-clause-follow c = can_lists c.requires.begin c.in_ok-take_all.ensures

pub drain_spans-requires : goal.drain_spans-requires
drain_spans-requires c =
    let g = c.requires.begin in
    let stage : Stage = stage_of c.args.parts.now g.store g.stands in
    let first = standing_taken (standing_begins stage c.args.moving.now g.objects g.words) c.in_ok-take_all.ensures in
    let b = c.in_ok-follow_roots.ensures stage _ first in
    subst (λ (spans : List Span). CanDrainSpans c.follow_roots.new.parts c.follow_roots.new.moving spans) (sym c.deref.ensures.value)
    (record { stage = stage; spot = b.after; standing = b.standing; may = spans_may c.in_ok-take_all.ensures b.grows })

pub drain-requires : goal.drain-requires
drain-requires c =
    let g = c.requires.begin in
    let stage : Stage = stage_of c.args.parts.now g.store g.stands in
    let first = standing_taken (standing_begins stage c.args.moving.now g.objects g.words) c.in_ok-take_all.ensures in
    let b = c.in_ok-follow_roots.ensures stage _ first in
    let may = subst (λ (spans : List Span). (k : ℕ) (span : Span) → slice_get spans k ≡ Some span → MaySpan stage b.after span) (sym c.deref.ensures.value) (spans_may c.in_ok-take_all.ensures b.grows) in
    let d = c.in_ok-drain_spans.ensures stage b.after b.standing may in
    record { stage = stage; spot = d.after; standing = d.standing; todo = todo_are stage (adds_twice b.adds d.adds) g.todo }

pub returns-clause-survived : goal.returns-clause-survived
returns-clause-survived c = λ store stands.
    let g = c.requires.begin in
    let stage : Stage = stage_of c.args.parts.now store stands in
    let first = standing_taken (standing_begins stage c.args.moving.now g.objects g.words) c.in_ok-take_all.ensures in
    let b = c.in_ok-follow_roots.ensures stage _ first in
    let may = subst (λ (spans : List Span). (k : ℕ) (span : Span) → slice_get spans k ≡ Some span → MaySpan stage b.after span) (sym c.deref.ensures.value) (spans_may c.in_ok-take_all.ensures b.grows) in
    let d0 = c.in_ok-drain_spans.ensures stage b.after b.standing may in
    let d = subst (λ (spans : List Span). DrainedSpans stage c.follow_roots.new.parts c.drain_spans.new.parts c.follow_roots.new.moving c.drain_spans.new.moving b.after spans (length spans)) c.deref.ensures.value d0 in
    let todo = todo_are stage (adds_twice b.adds d.adds) g.todo in
    on_ok c.drain.result (λ both. survived c.in_ok-take_all.ensures b d both.0 both.1)
    (both_ok (Drained stage c.drain_spans.new.parts c.drain.new.parts c.drain.new.moving d.after) (c.drain.new.moving.todo.items ≡ []) c.drain.result (c.drain.ensures.drained stage d.after d.standing todo) c.drain.ensures.emptied)

pub returns-clause-took : goal.returns-clause-took
returns-clause-took c = on_ok c.drain.result (λ all. record { taken = c.take_all.new.parts; took = c.in_ok-take_all.ensures }) c.drain.ensures.emptied
