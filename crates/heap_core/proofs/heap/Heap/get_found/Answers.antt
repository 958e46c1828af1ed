use Rattle.std.proofs.Common.{◌≡◌, [], ◌∷◌, subst}
use Rattle.text_model.specs.declared.command.Command.TheVariants.{Get}
use Rattle.text_model.specs.declared.line.Line.TheVariants.{Got}
use Rattle.heap_core.specs.declared.heap.State.TheVariants.{Started}
use Rattle.heap_core.specs.Heap.{HeapSeen}
use Rattle.heap_core.specs.Found.{found_in}
use Rattle.heap_core.proofs.Calls.{in_state, performs_started}
use Rattle.heap_core.proofs.heap.Heap.get_found.Goals as goal

pub returns-in-Started-clause-performs : goal.returns-in-Started-clause-performs
returns-in-Started-clause-performs c =
    let parts = c.in-Started.parts in
    let now = in_state c.args.self.now c.self.inside.state (Started parts) c.self.view_is c.in-Started.is in
    performs_started c.args.self.now c.args.self.now parts parts (Get c.args.root c.args.i) [] (Got c.get_int.result ∷ []) now now c.get_int.ensures

pub get_int-requires-clause-found : goal.get_int-requires-clause-found
get_int-requires-clause-found c =
    let now = in_state c.args.self.now c.self.inside.state (Started c.in-Started.parts) c.self.view_is c.in-Started.is in
    subst (λ (h : HeapSeen). c.args.found ≡ found_in h c.args.root) now c.requires.found
