use Rattle.std.proofs.Common.{[], ◌∷◌, ap}
use Rattle.text_model.specs.declared.command.Command.TheVariants.{Pin}
use Rattle.text_model.specs.declared.line.Line.TheVariants.{PinIs}
use Rattle.heap_core.specs.Seen.{seen}
use Rattle.heap_core.specs.declared.heap.Heap.TheInside.{Inside}
use Rattle.heap_core.specs.declared.heap.State.TheVariants.{Started}
use Rattle.heap_core.proofs.Calls.{in_state, performs_started}
use Rattle.heap_core.proofs.heap.Heap.pin.Goals as goal
use Rattle.heap_core.proofs.heap.Heap.pin.Goals.{in-Started, in-Closed, in-Closed-2}

pub returns-clause-performs : goal.returns-clause-performs
returns-clause-performs c = elim c.match-self.branch [
  | in-Started w ↦ rw w.result-is (performs_started c.args.self.now _ w.in-Started.parts w.pin_object.new.parts (Pin c.args.root) [] (PinIs w.pin_object.result ∷ [])
      (in_state c.args.self.now c.self.inside.state (Started w.in-Started.parts) c.self.view_is w.in-Started.is)
      (ap (λ (i : Inside). seen i.state) w.self-inside-is) w.pin_object.ensures)
  | in-Closed w ↦ rw w.result-is tt
  | in-Closed-2 w ↦ rw w.result-is tt
]
