use Rattle.std.proofs.Common.{◌≡◌, [], ◌∷◌, ap, subst}
use Rattle.text_model.specs.declared.command.Command.TheVariants.{Deref}
use Rattle.text_model.specs.declared.line.Line.TheVariants.{Derefed}
use Rattle.heap_core.specs.Seen.{seen}
use Rattle.heap_core.specs.declared.heap.Heap.TheInside.{Inside}
use Rattle.heap_core.specs.declared.heap.State.TheVariants.{Started}
use Rattle.heap_core.specs.Heap.{HeapSeen}
use Rattle.heap_core.specs.Found.{found_in}
use Rattle.heap_core.proofs.Calls.{in_state, performs_started}
use Rattle.heap_core.proofs.heap.Heap.deref_found.Goals as goal
use Rattle.heap_core.proofs.heap.Heap.deref_found.Goals.{in-Started, in-Closed, in-Closed-2}

pub returns-clause-performs : goal.returns-clause-performs
returns-clause-performs c = elim c.match-self.branch [
  | in-Started w ↦ rw w.result-is (performs_started c.args.self.now _ w.in-Started.parts w.deref_weak.new.parts (Deref c.args.to c.args.root) [] (Derefed w.deref_weak.result ∷ [])
      (in_state c.args.self.now c.self.inside.state (Started w.in-Started.parts) c.self.view_is w.in-Started.is)
      (ap (λ (i : Inside). seen i.state) w.self-inside-is) w.deref_weak.ensures)
  | in-Closed w ↦ rw w.result-is tt
  | in-Closed-2 w ↦ rw w.result-is tt
]

pub deref_weak-requires-clause-found : goal.deref_weak-requires-clause-found
deref_weak-requires-clause-found c =
    let now = in_state c.args.self.now c.self.inside.state (Started c.in-Started.parts) c.self.view_is c.in-Started.is in
    subst (λ (h : HeapSeen). c.args.found ≡ found_in h c.args.root) now c.requires.found
