use Rattle.std.proofs.Common.{◌≡◌, ◌+◌, ◌≤◌, ◌++◌, length, vec_len}
use Rattle.std.specs.Vec.{vec_capacity}
use Rattle.large_objects.proofs.Large.live_blocks.Given as goal

abbrev pub invariant-loop-a : goal.invariant-loop-a
invariant-loop-a l = record {
  can : (goal.iterator-loop-a).can_next l.a-iterator;
  ends : (goal.iterator-loop-a).is_finite l.a-iterator;
  room : vec_len l.out + length l.a-iterator ≤ vec_capacity l.out;
  told : l.out.items ++ l.a-iterator ≡ l.fn.out.items ++ l.self.blocks.entries;
}
