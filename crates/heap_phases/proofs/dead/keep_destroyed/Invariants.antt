use Rattle.std.proofs.Common.{◌≡◌, ◌++◌, take, map}
use Rattle.std.specs.Prelude.{filter}
use Rattle.heap_phases.specs.Ending.{birth_in, is_destroyed}
use Rattle.heap_phases.proofs.dead.keep_destroyed.Given as goal

abbrev pub invariant-loop-block : goal.invariant-loop-block
invariant-loop-block l = l.births.items ≡ l.initial.births.items ++ map (birth_in l.space) (filter (is_destroyed l.types l.space) (take l.block-index l.blocks))
