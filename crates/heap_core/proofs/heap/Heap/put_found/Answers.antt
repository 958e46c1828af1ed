use Rattle.std.proofs.Common.{◌≡◌, [], ap, subst}
use Rattle.text_model.specs.declared.command.Command.TheVariants.{Put}
use Rattle.heap_core.specs.Seen.{seen}
use Rattle.heap_core.specs.declared.heap.Heap.TheInside.{Inside}
use Rattle.heap_core.specs.declared.heap.State.TheVariants.{Started}
use Rattle.heap_core.specs.Heap.{HeapSeen}
use Rattle.heap_core.specs.Found.{found_in}
use Rattle.heap_core.proofs.Calls.{in_state, performs_started, performs_idle}
use Rattle.heap_core.proofs.heap.Heap.put_found.Goals as goal
use Rattle.heap_core.proofs.heap.Heap.put_found.Goals.{in-Started, in-Closed, in-Closed-2}

pub returns-clause-performs : goal.returns-clause-performs
returns-clause-performs c = elim c.match-self.branch [
  | in-Started w ↦ (performs_started c.args.self.now _ w.in-Started.parts w.put_int.new.parts (Put c.args.root c.args.i c.args.v) [] ([])
      (in_state c.args.self.now c.self.inside.state (Started w.in-Started.parts) c.self.view_is w.in-Started.is)
      (ap (λ (i : Inside). seen i.state) w.self-inside-is) w.put_int.ensures)
  | in-Closed w ↦ performs_idle c.args.self.now _ c.self.inside.state (Put c.args.root c.args.i c.args.v) [] [] w.in-Closed.is c.self.view_is
      (ap (λ (i : Inside). seen i.state) w.self-inside-is) c.requires.can
  | in-Closed-2 w ↦ performs_idle c.args.self.now _ c.self.inside.state (Put c.args.root c.args.i c.args.v) [] [] w.in-Closed.is c.self.view_is
      (ap (λ (i : Inside). seen i.state) w.self-inside-is) c.requires.can
]

pub put_int-requires-clause-found : goal.put_int-requires-clause-found
put_int-requires-clause-found c =
    let now = in_state c.args.self.now c.self.inside.state (Started c.in-Started.parts) c.self.view_is c.in-Started.is in
    subst (λ (h : HeapSeen). c.args.found ≡ found_in h c.args.root) now c.requires.found
