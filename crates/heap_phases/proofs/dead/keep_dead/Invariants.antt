use Rattle.std.proofs.Common.{◌≡◌, ◌++◌, take}
use Rattle.std.specs.Prelude.{filter}
use Rattle.heap_phases.specs.Ending.{is_dead_in}
use Rattle.heap_phases.proofs.dead.keep_dead.Given as goal

abbrev pub invariant-loop-block : goal.invariant-loop-block
invariant-loop-block l = l.dead.items ≡ l.initial.dead.items ++ filter (is_dead_in l.space) (take l.block-index l.live)
