use Rattle.std.proofs.Common.{◌≡◌, ◌++◌, ℕ, map, take}
use Rattle.minor_collect.proofs.ending.append_places.Given as goal

abbrev pub invariant-loop-pin : goal.invariant-loop-pin
invariant-loop-pin l = l.places.items ≡ l.fn.places.items ++ map (λ (e : ℕ × ℕ). e.0) (take l.pin-index l.pins)
