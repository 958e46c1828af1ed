use Rattle.std.proofs.Common.{[], ap}
use Rattle.text_model.specs.declared.command.Command.TheVariants.{Inc}
use Rattle.heap_core.specs.Seen.{seen}
use Rattle.heap_core.specs.declared.heap.Heap.TheInside.{Inside}
use Rattle.heap_core.specs.declared.heap.State.TheVariants.{Started}
use Rattle.heap_core.proofs.Calls.{in_state, performs_started, performs_idle}
use Rattle.heap_core.proofs.heap.Heap.inc.Goals as goal
use Rattle.heap_core.proofs.heap.Heap.inc.Goals.{in-Started, in-Closed, in-Closed-2}

pub returns-clause-performs : goal.returns-clause-performs
returns-clause-performs c = elim c.match-self.branch [
  | in-Started w ↦ (performs_started c.args.self.now _ w.in-Started.parts w.raise_count.new.parts (Inc c.args.number) [] ([])
      (in_state c.args.self.now c.self.inside.state (Started w.in-Started.parts) c.self.view_is w.in-Started.is)
      (ap (λ (i : Inside). seen i.state) w.self-inside-is) w.raise_count.ensures)
  | in-Closed w ↦ performs_idle c.args.self.now _ c.self.inside.state (Inc c.args.number) [] [] w.in-Closed.is c.self.view_is
      (ap (λ (i : Inside). seen i.state) w.self-inside-is) c.requires
  | in-Closed-2 w ↦ performs_idle c.args.self.now _ c.self.inside.state (Inc c.args.number) [] [] w.in-Closed.is c.self.view_is
      (ap (λ (i : Inside). seen i.state) w.self-inside-is) c.requires
]
