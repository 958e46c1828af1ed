use Rattle.std.proofs.Common.{◌≡◌, ◌++◌, take}
use Rattle.std.specs.Prelude.{filter, not}
use Rattle.heap_parts.specs.Places.{is_young}
use Rattle.heap_phases.proofs.roots.push_old.Given as goal

abbrev pub invariant-loop-place : goal.invariant-loop-place
invariant-loop-place l = l.gray ≡ l.initial.gray ++ filter (λ q. not (is_young q)) (take l.place-index l.places)
