use Rattle.std.proofs.Common.{[], ap}
use Rattle.text_model.specs.declared.command.Command.TheVariants.{Put}
use Rattle.heap_core.specs.Seen.{seen}
use Rattle.heap_core.specs.declared.heap.Heap.TheInside.{Inside}
use Rattle.heap_core.specs.declared.heap.State.TheVariants.{Started}
use Rattle.heap_core.proofs.Calls.{in_state, ready_of, performs_started, performs_idle}
use Rattle.heap_core.proofs.TellerLaws.{whole_in}
use Rattle.heap_core.proofs.heap.Heap.put.Goals as goal
use Rattle.heap_core.proofs.heap.Heap.put.Goals.{in-Started, in-Closed, in-Closed-2}

pub returns-clause-performs : goal.returns-clause-performs
returns-clause-performs c = elim c.match-self.branch [
  | in-Started w ↦ (performs_started c.args.self.now _ w.in-Started.parts w.put_int.new.parts (Put c.args.root c.args.i c.args.v) [] ([])
      (in_state c.args.self.now c.self.inside.state (Started w.in-Started.parts) c.self.view_is w.in-Started.is)
      (ap (λ (i : Inside). seen i.state) w.self-inside-is) w.put_int.ensures)
  | in-Closed w ↦ performs_idle c.args.self.now _ c.self.inside.state (Put c.args.root c.args.i c.args.v) [] [] w.in-Closed.is c.self.view_is
      (ap (λ (i : Inside). seen i.state) w.self-inside-is) c.requires
  | in-Closed-2 w ↦ performs_idle c.args.self.now _ c.self.inside.state (Put c.args.root c.args.i c.args.v) [] [] w.in-Closed.is c.self.view_is
      (ap (λ (i : Inside). seen i.state) w.self-inside-is) c.requires
]

pub find-found-requires : goal.find-found-requires
find-found-requires c = λ full.
    let parts = c.in-Started.parts in
    let now = in_state c.args.self.now c.self.inside.state (Started parts) c.self.view_is c.in-Started.is in
    whole_in parts c.args.root (ready_of c.args.self.now parts (Put c.args.root c.args.i c.args.v) now c.requires).standing full
