use Rattle.std.specs.Prelude.{take}
use Rattle.minor_collect.specs.Queues.{Queues}
use Rattle.minor_collect.proofs.ending.queue_written.Given as goal

abbrev pub invariant-loop-span : goal.invariant-loop-span
invariant-loop-span l = Queues l.fn.parts l.parts (take l.span-index l.spans)
