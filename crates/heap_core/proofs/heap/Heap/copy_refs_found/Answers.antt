use Rattle.std.proofs.Common.{◌≡◌, [], ap, subst}
use Rattle.text_model.specs.declared.command.Command.TheVariants.{CopyRefs}
use Rattle.heap_core.specs.Seen.{seen}
use Rattle.heap_core.specs.declared.heap.Heap.TheInside.{Inside}
use Rattle.heap_core.specs.declared.heap.State.TheVariants.{Started}
use Rattle.heap_core.specs.Heap.{HeapSeen}
use Rattle.heap_core.specs.Found.{found_in}
use Rattle.heap_core.proofs.Calls.{in_state, performs_started}
use Rattle.heap_core.proofs.heap.Heap.copy_refs_found.Goals as goal
use Rattle.heap_core.proofs.heap.Heap.copy_refs_found.Goals.{in-Started+in_ok-copy_items-in-Started, in-Closed, in-Closed-2}

pub returns-clause-performs : goal.returns-clause-performs
returns-clause-performs c = elim c.match-self.branch [
  | in-Started+in_ok-copy_items-in-Started w ↦ rw w.result-is (performs_started c.args.self.now _ w.in-Started.parts w.copy_items.new.parts (CopyRefs c.args.root c.args.i c.args.from c.args.j c.args.n) [] []
      (in_state c.args.self.now c.self.inside.state (Started w.in-Started.parts) c.self.view_is w.in-Started.is)
      (ap (λ (i : Inside). seen i.state) w.self-inside-is) w.in_ok-copy_items-in-Started.ensures.does)
  | in-Closed w ↦ rw w.result-is tt
  | in-Closed-2 w ↦ rw w.result-is tt
]

pub copy_items-requires-clause-found : goal.copy_items-requires-clause-found
copy_items-requires-clause-found c =
    let now = in_state c.args.self.now c.self.inside.state (Started c.in-Started.parts) c.self.view_is c.in-Started.is in
    subst (λ (h : HeapSeen). c.args.found ≡ found_in h c.args.root) now c.requires.found

pub copy_items-requires-clause-source : goal.copy_items-requires-clause-source
copy_items-requires-clause-source c =
    let now = in_state c.args.self.now c.self.inside.state (Started c.in-Started.parts) c.self.view_is c.in-Started.is in
    subst (λ (h : HeapSeen). c.args.source ≡ found_in h c.args.from) now c.requires.source
