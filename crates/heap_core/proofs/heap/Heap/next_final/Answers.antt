use Rattle.std.proofs.Common.{[], ◌∷◌, ap}
use Rattle.text_model.specs.declared.command.Command.TheVariants.{NextFinal}
use Rattle.text_model.specs.declared.line.Line.TheVariants.{NextIs}
use Rattle.heap_core.specs.Seen.{seen}
use Rattle.heap_core.specs.declared.heap.Heap.TheInside.{Inside}
use Rattle.heap_core.specs.declared.heap.State.TheVariants.{Started}
use Rattle.heap_core.proofs.Calls.{in_state, performs_started}
use Rattle.heap_core.proofs.heap.Heap.next_final.Goals as goal
use Rattle.heap_core.proofs.heap.Heap.next_final.Goals.{in-Started, in-Closed, in-Closed-2}

pub returns-clause-performs : goal.returns-clause-performs
returns-clause-performs c = elim c.match-self.branch [
  | in-Started w ↦ rw w.result-is (performs_started c.args.self.now _ w.in-Started.parts w.take_final.new.parts (NextFinal c.args.to c.args.queue) [] (NextIs w.take_final.result ∷ [])
      (in_state c.args.self.now c.self.inside.state (Started w.in-Started.parts) c.self.view_is w.in-Started.is)
      (ap (λ (i : Inside). seen i.state) w.self-inside-is) w.take_final.ensures)
  | in-Closed w ↦ rw w.result-is tt
  | in-Closed-2 w ↦ rw w.result-is tt
]
