use Rattle.std.proofs.Common.{◌≡◌, Option, option_map, sym, ap, ◌∙◌}
use Rattle.object_model.specs.declared.kind.Kind.{Kind}
use Rattle.heap_parts.specs.Parts.{word_in, place_in}
use Rattle.heap_core.specs.declared.heap.State.TheVariants.{Started}
use Rattle.heap_core.specs.declared.found.Found.{Found}
use Rattle.heap_core.specs.Heap.{HeapSeen}
use Rattle.heap_core.specs.Found.{kind_of, found_in}
use Rattle.heap_core.specs.Commands.{told_by}
use Rattle.heap_core.proofs.Calls.{in_state, standing_of}
use Rattle.heap_core.proofs.TellerLaws.{whole_in}
use Rattle.heap_core.proofs.FoundCalls.{found-kind}
use Rattle.heap_core.proofs.heap.Heap.found.Goals as goal

pub find-requires : goal.find-requires
find-requires c = λ full.
    let parts = c.in-Started.parts in
    let now = in_state c.args.self.now c.self.inside.state (Started parts) c.self.view_is c.in-Started.is in
    whole_in parts c.args.root (standing_of c.args.self.now parts now c.requires) full

pub returns-in-Started-clause-value : goal.returns-in-Started-clause-value
returns-in-Started-clause-value c =
    let now = in_state c.args.self.now c.self.inside.state (Started c.in-Started.parts) c.self.view_is c.in-Started.is in
    c.find.ensures ∙ sym (ap (λ (h : HeapSeen). found_in h c.args.root) now)

pub returns-in-Started-clause-kind : goal.returns-in-Started-clause-kind
returns-in-Started-clause-kind c =
    let parts = c.in-Started.parts in
    let now = in_state c.args.self.now c.self.inside.state (Started parts) c.self.view_is c.in-Started.is in
    ap (λ (found : Option Found). option_map kind_of found) c.find.ensures
    ∙ (found-kind parts.setup.types (word_in parts) (place_in parts c.args.root) ∙ sym (ap (λ (h : HeapSeen). (told_by h).kind c.args.root) now))
