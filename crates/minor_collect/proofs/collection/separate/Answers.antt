use Rattle.std.proofs.Common.{◌≡◌, sym, subst}
use Rattle.text_model.specs.declared.line.Phase.TheVariants.{Marking}
use Rattle.minor_collect.specs.Minor.{Took}
use Rattle.minor_collect.specs.Queues.{CanQueueSpans, Queues}
use Rattle.minor_collect.proofs.MinorSteps.{is_midway, can_queue}
use Rattle.minor_collect.proofs.OnOkLaws.{on_ok, where_ok}
use Rattle.minor_collect.proofs.collection.separate.Goals as goal

pub find_vanished-requires-clause-midway : goal.find_vanished-requires-clause-midway
find_vanished-requires-clause-midway c = is_midway c.requires.begin c.in_ok-move_survivors.ensures.survived

pub queue_visited-requires : goal.queue_visited-requires
queue_visited-requires c = λ goes_on.
    subst (CanQueueSpans c.move_survivors.new.parts) (sym c.deref_mut.ensures.value) (can_queue c.requires.begin c.in_ok-move_survivors.ensures.survived c.in_ok-move_survivors.ensures.took)

pub returns-clause-separates : goal.returns-clause-separates
returns-clause-separates c =
    on_ok c.queue_visited.result
    (λ queues. record {
      moved = c.move_survivors.new.parts;
      spans = c.deref_mut.result.now;
      took = subst (Took c.args.parts.now) (sym c.deref_mut.ensures.value) c.in_ok-move_survivors.ensures.took;
      survived = c.in_ok-move_survivors.ensures.survived;
      finds = c.in_ok-find_vanished.ensures;
      queues = queues;
      quiet = c.queue_visited.ensures.other;
    })
    (where_ok (c.move_survivors.new.parts.phase ≡ Marking) (Queues c.move_survivors.new.parts c.queue_visited.new.parts c.deref_mut.result.now) c.queue_visited.result c.queue_visited.ensures.marking)
