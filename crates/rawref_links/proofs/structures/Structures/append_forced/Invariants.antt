use Rattle.std.proofs.Common.{◌≡◌, ◌+◌, ◌-◌, ◌≤◌, ◌++◌, length, take, filter_map, vec_len, vec_capacity}
use Rattle.rawref_links.specs.Structures.{forced_at}
use Rattle.rawref_links.proofs.structures.Structures.append_forced.Given as goal

abbrev pub invariant-loop-number : goal.invariant-loop-number
invariant-loop-number l = record {
  items : l.places.items ≡ l.initial.places.items ++ filter_map (forced_at l.self) (take l.number-index l.numbers);
  room : vec_len l.places + (length l.numbers - l.number-index) ≤ vec_capacity l.places;
}
