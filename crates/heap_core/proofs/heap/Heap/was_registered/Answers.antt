use Rattle.heap_core.specs.declared.heap.State.TheVariants.{Started}
use Rattle.heap_core.proofs.Calls.{in_state, standing_of}
use Rattle.heap_core.proofs.TellerLaws.{whole_in}
use Rattle.heap_core.proofs.heap.Heap.was_registered.Goals as goal

pub was_registered-requires : goal.was_registered-requires
was_registered-requires c = λ full.
    let parts = c.in-Started.parts in
    let now = in_state c.args.self.now c.self.inside.state (Started parts) c.self.view_is c.in-Started.is in
    whole_in parts c.args.root (standing_of c.args.self.now parts now c.requires) full
