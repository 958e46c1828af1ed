use Rattle.std.proofs.Common.{[], ◌∷◌}
use Rattle.text_model.specs.declared.command.Command.TheVariants.{Get}
use Rattle.text_model.specs.declared.line.Line.TheVariants.{Got}
use Rattle.heap_core.specs.declared.heap.State.TheVariants.{Started}
use Rattle.heap_core.proofs.Calls.{in_state, ready_of, performs_started}
use Rattle.heap_core.proofs.TellerLaws.{whole_in}
use Rattle.heap_core.proofs.heap.Heap.get.Goals as goal

pub returns-in-Started-clause-performs : goal.returns-in-Started-clause-performs
returns-in-Started-clause-performs c =
    let parts = c.in-Started.parts in
    let now = in_state c.args.self.now c.self.inside.state (Started parts) c.self.view_is c.in-Started.is in
    performs_started c.args.self.now c.args.self.now parts parts (Get c.args.root c.args.i) [] (Got c.get_int.result ∷ []) now now c.get_int.ensures

pub find-found-requires : goal.find-found-requires
find-found-requires c = λ full.
    let parts = c.in-Started.parts in
    let now = in_state c.args.self.now c.self.inside.state (Started parts) c.self.view_is c.in-Started.is in
    whole_in parts c.args.root (ready_of c.args.self.now parts (Get c.args.root c.args.i) now c.requires).standing full
