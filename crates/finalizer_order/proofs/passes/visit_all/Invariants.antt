use Rattle.std.proofs.Common.{◌≡◌, ◌+◌, ◌++◌, take, map}
use Rattle.heap_space.specs.Places.{word_at}
use Rattle.finalizer_order.specs.Passes.{settled_word}
use Rattle.finalizer_order.proofs.Objects.{changed}
use Rattle.finalizer_order.proofs.passes.visit_all.Given as goal

abbrev pub invariant-loop-place : goal.invariant-loop-place
invariant-loop-place l = record {
  visited : l.space ≡ changed settled_word (take l.place-index l.marked) l.fn.space;
  listed : l.births.items ≡ l.fn.births.items ++ map (λ p. word_at l.fn.space.blocks (p + 1)) (take l.place-index l.marked);
}
