use Rattle.std.proofs.Common.{get_or, ap, ◌∙◌, arith}
use Rattle.heap_space.specs.Places.{with_word}
use Rattle.finalizer_order.specs.Passes.{settled_word}
use Rattle.finalizer_order.proofs.Steps.{has_next, changes_next, head-has, head-fits, birth-has, births_next}
use Rattle.finalizer_order.proofs.passes.visit_all.Goals as goal

pub overflow_add-place : goal.overflow_add-place
overflow_add-place c = let f = head-fits c.requires c.loop-place.place-index c.arena_words-ordered.ensures.ordered c.loop-place-test.true in omega (arith, f)

pub read-requires : goal.read-requires
read-requires c = birth-has c.requires c.loop-place.place-index c.loop-place-test.true c.loop-place.invariant.visited

pub read-word-requires : goal.read-word-requires
read-word-requires c = has_next settled_word c.args.marked.now c.loop-place.place-index c.args.space.now c.loop-place.space (head-has c.requires) c.loop-place-test.true c.loop-place.invariant.visited

pub write-requires : goal.write-requires
write-requires c = has_next settled_word c.args.marked.now c.loop-place.place-index c.args.space.now c.loop-place.space (head-has c.requires) c.loop-place-test.true c.loop-place.invariant.visited

pub loop-place-preserved : goal.loop-place-preserved
loop-place-preserved c = record {
  visited = changes_next settled_word c.args.marked.now c.loop-place.place-index c.args.space.now c.loop-place.space c.write.new.self c.loop-place-test.true c.loop-place.invariant.visited
      (c.write.ensures ∙ ap (λ w. record c.loop-place.space { blocks = with_word c.loop-place.space.blocks (get_or c.args.marked.now c.loop-place.place-index 0) w }) (c.settled.ensures ∙ ap settled_word c.read-word.ensures));
  listed = births_next c.requires c.loop-place.place-index c.loop-place-test.true c.loop-place.invariant.visited c.args.births.now.items c.loop-place.births.items c.push.new.self.items c.read.result
      c.loop-place.invariant.listed c.read.ensures c.in_ok-push.ensures.items;
}
