use Rattle.std.proofs.Common.{take, map}
use Rattle.heap_phases.specs.Ending.{husk_of}
use Rattle.heap_phases.proofs.HuskTable.{IsFilledWith}
use Rattle.heap_phases.proofs.dead.list_husks.Given as goal

abbrev pub invariant-loop-block : goal.invariant-loop-block
invariant-loop-block l = IsFilledWith l.husks.entries (map (husk_of l.space) (take l.block-index l.blocks))
