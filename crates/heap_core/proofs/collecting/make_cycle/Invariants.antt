use Rattle.heap_core.proofs.collecting.make_cycle.Given as goal
use Rattle.collect_laws.specs.Events.{Undergoes}
use Rattle.collect_laws.proofs.CycleLaws.{SoFar, blocks_left}

-- blocks of the cycle came so far
abbrev pub invariant-cycle : goal.invariant-cycle
invariant-cycle l = Undergoes SoFar l.fn.parts l.parts l.fn.collector.lines.items l.collector.lines.items

abbrev pub decreases-cycle : goal.decreases-cycle
decreases-cycle l = blocks_left l.fn.parts l.fn.collector.lines.items l.collector.lines.items
