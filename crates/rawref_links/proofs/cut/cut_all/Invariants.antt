use Rattle.std.proofs.Common.{◌≡◌, ◌+◌, ◌-◌, ◌≤◌, ◌++◌, length, take, vec_len, vec_capacity}
use Rattle.std.specs.VecDeque.{deque_len, deque_capacity}
use Rattle.store_model.specs.Links.{newly_dead}
use Rattle.rawref_links.specs.Cuts.{CutsAt, ends_of}
use Rattle.rawref_links.proofs.cut.cut_all.Given as goal

abbrev pub invariant-loop-number : goal.invariant-loop-number
invariant-loop-number l = record {
  structures : CutsAt l.initial.structures l.structures (take l.number-index l.numbers);
  ends : l.ends.items ≡ l.initial.ends.items ++ ends_of l.initial.structures (take l.number-index l.numbers);
  dead : l.dead.items ≡ l.initial.dead.items ++ newly_dead (ends_of l.initial.structures (take l.number-index l.numbers));
  dead_room : deque_len l.dead + (length l.numbers - l.number-index) ≤ deque_capacity l.dead;
  ends_room : vec_len l.ends + (length l.numbers - l.number-index) ≤ vec_capacity l.ends;
}
