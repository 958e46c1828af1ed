use Rattle.std.proofs.Common.{[], ap}
use Rattle.text_model.specs.declared.command.Command.TheVariants.{MoveRoot}
use Rattle.heap_core.specs.Seen.{seen}
use Rattle.heap_core.specs.declared.heap.Heap.TheInside.{Inside}
use Rattle.heap_core.specs.declared.heap.State.TheVariants.{Started}
use Rattle.heap_core.proofs.Calls.{in_state, performs_started, performs_idle}
use Rattle.heap_core.proofs.heap.Heap.move_root.Goals as goal
use Rattle.heap_core.proofs.heap.Heap.move_root.Goals.{in-Started, in-Closed, in-Closed-2}

pub returns-clause-performs : goal.returns-clause-performs
returns-clause-performs c = elim c.match-self.branch [
  | in-Started w ↦ (performs_started c.args.self.now _ w.in-Started.parts w.move_place.new.parts (MoveRoot c.args.to c.args.from) [] ([])
      (in_state c.args.self.now c.self.inside.state (Started w.in-Started.parts) c.self.view_is w.in-Started.is)
      (ap (λ (i : Inside). seen i.state) w.self-inside-is) w.move_place.ensures)
  | in-Closed w ↦ performs_idle c.args.self.now _ c.self.inside.state (MoveRoot c.args.to c.args.from) [] [] w.in-Closed.is c.self.view_is
      (ap (λ (i : Inside). seen i.state) w.self-inside-is) c.requires
  | in-Closed-2 w ↦ performs_idle c.args.self.now _ c.self.inside.state (MoveRoot c.args.to c.args.from) [] [] w.in-Closed.is c.self.view_is
      (ap (λ (i : Inside). seen i.state) w.self-inside-is) c.requires
]
