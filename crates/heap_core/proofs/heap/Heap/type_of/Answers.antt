use Rattle.std.proofs.Common.{◌≡◌, ℕ, sym, subst}
use Rattle.std.specs.Prelude.{IsSome, IsSomeAnd}
use Rattle.store_model.specs.Slots.{object_in}
use Rattle.heap_parts.specs.Parts.{word_in, place_in}
use Rattle.heap_core.specs.declared.heap.State.TheVariants.{Started}
use Rattle.heap_core.specs.Heap.{HeapSeen}
use Rattle.heap_core.specs.Commands.{told_by}
use Rattle.heap_core.proofs.TellerLaws.{full-of, type_is, object_in_full}
use Rattle.heap_core.proofs.Calls.{in_state, stands_of, standing_of}
use Rattle.heap_core.proofs.heap.Heap.type_of.Goals as goal

pub type_of-requires : goal.type_of-requires
type_of-requires c =
    let parts = c.in-Started.parts in
    let now = in_state c.args.self.now c.self.inside.state (Started parts) c.self.view_is c.in-Started.is in
    let some = subst (λ (h : HeapSeen). IsSome ((told_by h).kind c.args.root)) now c.requires.full in
    object_in_full parts c.args.root (standing_of c.args.self.now parts now c.requires.standing) (full-of parts.setup.types (word_in parts) (place_in parts c.args.root) some)

pub returns-in-Started : goal.returns-in-Started
returns-in-Started c = λ store s.
    let parts = c.in-Started.parts in
    let root = c.args.root in
    let now = in_state c.args.self.now c.self.inside.state (Started parts) c.self.view_is c.in-Started.is in
    let some = subst (λ (h : HeapSeen). IsSome ((told_by h).kind root)) now c.requires.full in
    subst (λ (id : ℕ). IsSomeAnd (object_in store.slots store.kept root) (λ o. id ≡ o.type_id)) (sym c.type_of.ensures)
    (type_is parts store root (stands_of c.args.self.now parts store now s) (full-of parts.setup.types (word_in parts) (place_in parts root) some))
