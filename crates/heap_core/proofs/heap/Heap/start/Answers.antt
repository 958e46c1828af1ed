use Rattle.command_laws.proofs.Start.{started_stands}
use Rattle.heap_core.proofs.heap.Heap.start.Goals as goal

pub returns-clause-empty : goal.returns-clause-empty
returns-clause-empty c = started_stands c.in_ok-parts.parts c.args.settings.now c.args.types c.requires.settings c.in_ok-parts.ensures
