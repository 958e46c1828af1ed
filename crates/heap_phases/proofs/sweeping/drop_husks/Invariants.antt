use Rattle.std.proofs.Common.{take}
use Rattle.heap_phases.proofs.HuskTable.{AreTaken}
use Rattle.heap_phases.proofs.sweeping.drop_husks.Given as goal

abbrev pub invariant-loop-birth : goal.invariant-loop-birth
invariant-loop-birth l = AreTaken l.initial.husks.entries (take l.birth-index l.freed) l.husks.entries l.words
