use Rattle.std.proofs.Common.{◌≡◌, ◌∙◌, ℕ, sym, ap}
use Rattle.std.specs.Prelude.{is_some, not, ◌==◌}
use Rattle.heap_parts.specs.Parts.{word_in, place_in}
use Rattle.heap_core.specs.declared.heap.State.TheVariants.{Started}
use Rattle.heap_core.specs.Heap.{HeapSeen}
use Rattle.heap_core.specs.Commands.{told_by}
use Rattle.heap_core.proofs.Calls.{in_state}
use Rattle.heap_core.proofs.FoundCalls.{full-kind}
use Rattle.heap_core.proofs.heap.Heap.root_is.Goals as goal

pub returns-in-Started : goal.returns-in-Started
returns-in-Started c =
    let parts = c.in-Started.parts in
    let now = in_state c.args.self.now c.self.inside.state (Started parts) c.self.view_is c.in-Started.is in
    ap (λ (place : ℕ). not (place == 0)) c.place.ensures
    ∙ (sym (full-kind parts.setup.types (word_in parts) (place_in parts c.args.root)) ∙ sym (ap (λ (h : HeapSeen). is_some ((told_by h).kind c.args.root)) now))
