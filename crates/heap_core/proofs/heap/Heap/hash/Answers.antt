use Rattle.std.proofs.Common.{[], ◌∷◌, refl, ap}
use Rattle.text_model.specs.declared.command.Command.TheVariants.{Hash}
use Rattle.text_model.specs.declared.line.Line.TheVariants.{HashIs}
use Rattle.heap_core.specs.Seen.{seen}
use Rattle.heap_core.specs.declared.heap.Heap.TheInside.{Inside}
use Rattle.heap_core.specs.declared.heap.State.TheVariants.{Started}
use Rattle.heap_core.proofs.Calls.{in_state, performs_started, keeps_started}
use Rattle.heap_core.proofs.BearLaws.{on_err}
use Rattle.heap_core.proofs.heap.Heap.hash.Goals as goal
use Rattle.heap_core.proofs.heap.Heap.hash.Goals.{in-Started+in_ok-tell_hash-in-Started, in-Closed, in-Closed-2}

pub returns-clause-performs : goal.returns-clause-performs
returns-clause-performs c = elim c.match-self.branch [
  | in-Started+in_ok-tell_hash-in-Started w ↦ rw w.result-is (performs_started c.args.self.now _ w.in-Started.parts w.tell_hash.new.parts (Hash c.args.root) [] (HashIs w.in_ok-tell_hash-in-Started.field-0 ∷ [])
      (in_state c.args.self.now c.self.inside.state (Started w.in-Started.parts) c.self.view_is w.in-Started.is)
      (ap (λ (i : Inside). seen i.state) w.self-inside-is) w.in_ok-tell_hash-in-Started.ensures.does)
  | in-Closed w ↦ rw w.result-is tt
  | in-Closed-2 w ↦ rw w.result-is tt
]

pub returns-in_err-tell_hash-in-Started-clause-err : goal.returns-in_err-tell_hash-in-Started-clause-err
returns-in_err-tell_hash-in-Started-clause-err c =
    on_err c.from_residual.result (keeps_started c.args.self.now _ c.in-Started.parts c.tell_hash.new.parts
    (in_state c.args.self.now c.self.inside.state (Started c.in-Started.parts) c.self.view_is c.in-Started.is) refl c.in_err-tell_hash-in-Started.ensures.err)
