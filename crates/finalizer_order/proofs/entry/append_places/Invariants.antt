use Rattle.std.proofs.Common.{◌≡◌, ◌++◌, ◌+◌, ◌-◌, ◌≤◌, length, take, vec_len, vec_capacity}
use Rattle.finalizer_order.specs.Finalizers.{places_of}
use Rattle.finalizer_order.proofs.entry.append_places.Given as goal

abbrev pub invariant-loop-entry : goal.invariant-loop-entry
invariant-loop-entry l = record {
  listed : l.places.items ≡ l.fn.places.items ++ places_of (take l.entry-index l.entries);
  room : vec_len l.places + (length l.entries - l.entry-index) ≤ vec_capacity l.places;
}
