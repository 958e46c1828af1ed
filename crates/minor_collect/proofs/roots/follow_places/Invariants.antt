use Rattle.std.specs.Prelude.{take}
use Rattle.minor_collect.proofs.PlacesSteps.{PlacesTo}
use Rattle.minor_collect.proofs.roots.follow_places.Given as goal

abbrev pub invariant-loop-p : goal.invariant-loop-p
invariant-loop-p l = PlacesTo l.fn.parts l.parts l.fn.moving l.moving l.places (take l.p-index l.places)
