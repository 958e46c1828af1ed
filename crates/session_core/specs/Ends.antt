-- How a command ends that is not refused.
use Rattle.std.specs.Prelude.{◌≡◌, ℕ, true, List, Result, Ok, Err, IsTrue, ◌⊎◌}
use Rattle.text_model.specs.declared.command.Command.{Command}
use Rattle.text_model.specs.declared.line.Line.{Line}
use Rattle.heap_core.specs.declared.fault.HeapFault.{HeapFault}
use Rattle.heap_core.specs.declared.fault.HeapFault.TheVariants.{Spent, OutOfMemory, HeapLimit}
use Rattle.heap_core.specs.Heap.{HeapSeen}
use Rattle.heap_core.specs.Commands.{Performs, Keeps}
use Rattle.heap_core.specs.HeapBirths.{Exceeds, LeavesBirth}
use Rattle.session_core.specs.Blocks.{makes_blocks}
use Rattle.session_core.specs.Standing.{KeepsFront}

-- what a command leaves of a heap when memory runs out in it: a spent one, the heap as it was, or where the collections before a birth led
abbrev pub LeavesHeap : Command → HeapSeen → HeapSeen → Type 0
LeavesHeap command old new = IsTrue new.is_spent ⊎ (Keeps old new ⊎ ((makes_blocks command ≡ true) × LeavesBirth old new))

-- the command is done, or the limit refuses its birth, or memory ran out; the heap is not spent before
abbrev pub EndsCommand : Command → HeapSeen → HeapSeen → List Line → List Line → Result (Unit {0}) HeapFault → Type 0
EndsCommand command old new before after (Ok done) = Performs old new command before after
EndsCommand command old new before after (Err Spent) = ⊥
EndsCommand command old new before after (Err OutOfMemory) = KeepsFront before after × LeavesHeap command old new
EndsCommand command old new before after (Err (HeapLimit counted request limit)) = Exceeds old new command counted request limit before after
