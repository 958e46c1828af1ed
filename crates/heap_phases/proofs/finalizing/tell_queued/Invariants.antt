use Rattle.std.proofs.Common.{◌≡◌, ◌++◌, take, map}
use Rattle.heap_phases.specs.Ending.{queued_line}
use Rattle.heap_phases.proofs.finalizing.tell_queued.Given as goal

abbrev pub invariant-loop-entry : goal.invariant-loop-entry
invariant-loop-entry l = l.events.items ≡ l.initial.events.items ++ map (queued_line l.space) (take l.entry-index l.queued)
