use Rattle.heap_core.specs.declared.heap.State.TheVariants.{Started}
use Rattle.heap_core.proofs.Calls.{in_state, standing_of, look_by}
use Rattle.heap_core.proofs.TellerLaws.{whole_in}
use Rattle.heap_core.proofs.heap.Heap.kind_in.Goals as goal

pub kind-requires : goal.kind-requires
kind-requires c = λ full.
    let parts = c.in-Started.parts in
    let now = in_state c.args.self.now c.self.inside.state (Started parts) c.self.view_is c.in-Started.is in
    whole_in parts c.args.root (standing_of c.args.self.now parts now c.requires) full

pub returns-in-Started-clause-look : goal.returns-in-Started-clause-look
returns-in-Started-clause-look c = λ store s.
    let parts = c.in-Started.parts in
    look_by c.args.self.now parts (in_state c.args.self.now c.self.inside.state (Started parts) c.self.view_is c.in-Started.is) store s
