use Rattle.std.proofs.Common.{◌≡◌, true}
use Rattle.heap_space.specs.Places.{lies_in_one}
use Rattle.memory_tests.proofs.views.ones.Given as goal

abbrev pub invariant-loop-a : goal.invariant-loop-a
invariant-loop-a l = lies_in_one l.space.blocks 1 16 ≡ true
