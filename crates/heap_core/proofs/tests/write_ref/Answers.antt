use Rattle.std.proofs.Common.{[], ap}
use Rattle.text_model.specs.declared.command.Command.TheVariants.{Link}
use Rattle.heap_core.specs.Seen.{seen}
use Rattle.heap_core.specs.declared.heap.Heap.TheInside.{Inside}
use Rattle.heap_core.specs.declared.heap.State.TheVariants.{Started}
use Rattle.heap_core.proofs.Calls.{in_state, performs_started}
use Rattle.heap_core.proofs.tests.write_ref.Goals as goal
use Rattle.heap_core.proofs.tests.write_ref.Goals.{in-Started+in_ok-ref_by_words-in-Started, in-Closed, in-Closed-2}

pub returns : goal.returns
returns c = elim c.match-heap.branch [
  | in-Started+in_ok-ref_by_words-in-Started w ↦ rw w.result-is (performs_started c.args.heap.now _ w.in-Started.parts w.ref_by_words.new.parts (Link c.args.root c.args.i c.args.from) [] []
      (in_state c.args.heap.now c.heap.inside.state (Started w.in-Started.parts) c.heap.view_is w.in-Started.is)
      (ap (λ (i : Inside). seen i.state) w.heap-inside-is) w.in_ok-ref_by_words-in-Started.ensures)
  | in-Closed w ↦ rw w.result-is tt
  | in-Closed-2 w ↦ rw w.result-is tt
]
