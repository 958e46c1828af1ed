use Rattle.std.proofs.Common.{rules, refl}
use Rattle.minor_collect.proofs.OpenLaws.{drain_step, drain_less, can_open, popped_there, drain_end, with_counts}
use Rattle.minor_collect.proofs.items.drain.Goals as goal

pub open_object-requires : goal.open_object-requires
open_object-requires c = can_open c.requires c.loop-p.invariant c.in-Some.ensures.items refl refl

pub loop-p-smaller : goal.loop-p-smaller
loop-p-smaller c =
    let r = c.requires in let d = c.loop-p.invariant.each r.stage r.spot r.standing r.todo in
    drain_less d c.in-Some.ensures.items (c.in_ok-open_object.ensures r.stage d.after (with_counts refl refl d.standing) (popped_there d c.in-Some.ensures.items)) refl

pub loop-p-preserved : goal.loop-p-preserved
loop-p-preserved c = record {
  each = λ stage spot standing todo.
      let d = c.loop-p.invariant.each stage spot standing todo in
      drain_step d c.in-Some.ensures.items (c.in_ok-open_object.ensures stage d.after (with_counts refl refl d.standing) (popped_there d c.in-Some.ensures.items));
}

pub returns-clause-drained : goal.returns-clause-drained
returns-clause-drained c = λ stage spot standing todo.
    drain_end (c.loop-p.invariant.each stage spot standing todo) (search (rules, c.in_default.ensures.items, c.pop_front.ensures.items)) refl refl
