use Rattle.std.proofs.Common.{[], ◌∷◌, ap}
use Rattle.text_model.specs.declared.command.Command.TheVariants.{Deref}
use Rattle.text_model.specs.declared.line.Line.TheVariants.{Derefed}
use Rattle.heap_core.specs.Seen.{seen}
use Rattle.heap_core.specs.declared.heap.Heap.TheInside.{Inside}
use Rattle.heap_core.specs.declared.heap.State.TheVariants.{Started}
use Rattle.heap_core.proofs.Calls.{in_state, ready_of, performs_started}
use Rattle.heap_core.proofs.TellerLaws.{whole_in}
use Rattle.heap_core.proofs.heap.Heap.deref.Goals as goal
use Rattle.heap_core.proofs.heap.Heap.deref.Goals.{in-Started, in-Closed, in-Closed-2}

pub returns-clause-performs : goal.returns-clause-performs
returns-clause-performs c = elim c.match-self.branch [
  | in-Started w ↦ rw w.result-is (performs_started c.args.self.now _ w.in-Started.parts w.deref_weak.new.parts (Deref c.args.to c.args.root) [] (Derefed w.deref_weak.result ∷ [])
      (in_state c.args.self.now c.self.inside.state (Started w.in-Started.parts) c.self.view_is w.in-Started.is)
      (ap (λ (i : Inside). seen i.state) w.self-inside-is) w.deref_weak.ensures)
  | in-Closed w ↦ rw w.result-is tt
  | in-Closed-2 w ↦ rw w.result-is tt
]

pub find-found-requires : goal.find-found-requires
find-found-requires c = λ full.
    let parts = c.in-Started.parts in
    let now = in_state c.args.self.now c.self.inside.state (Started parts) c.self.view_is c.in-Started.is in
    whole_in parts c.args.root (ready_of c.args.self.now parts (Deref c.args.to c.args.root) now c.requires).standing full
