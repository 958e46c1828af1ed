use Rattle.std.proofs.Common.{ℕ, ◌<◌, IsTrue, [], sym, ap, ◌∙◌, subst}
use Rattle.text_model.specs.declared.command.Command.TheVariants.{Unpin}
use Rattle.heap_space.specs.Places.{has}
use Rattle.store_model.specs.Identity.{pin_count}
use Rattle.heap_parts.specs.Parts.{HeapParts}
use Rattle.heap_parts.specs.Pins.{without_pin}
use Rattle.heap_core.specs.Commands.{PartsDo}
use Rattle.heap_core.proofs.PinReady.{unpin_ready, first_there, pinned_some}
use Rattle.heap_core.proofs.PinCalls.{unpin_does}
use Rattle.heap_core.proofs.pinning.unpin_object.Goals as goal

pub unpin-requires-clause-there : goal.unpin-requires-clause-there
unpin-requires-clause-there c =
    let now : HeapParts = c.args.parts.now in
    subst (λ (p : ℕ). IsTrue (has now.memory.blocks p)) (sym c.place-place.ensures) (first_there now c.args.root (unpin_ready now c.args.root c.requires))

pub unpin-requires-clause-pinned : goal.unpin-requires-clause-pinned
unpin-requires-clause-pinned c =
    let now : HeapParts = c.args.parts.now in
    subst (λ (p : ℕ). 0 < pin_count now.pins p) (sym c.place-place.ensures) (pinned_some now c.args.root c.requires)

pub returns : goal.returns
returns c =
    let now : HeapParts = c.args.parts.now in
    subst (λ (h : HeapParts). PartsDo now h (Unpin c.args.root) []) (sym (c.unpin.ensures ∙ ap (λ (p : ℕ). without_pin now p) c.place-place.ensures)) (unpin_does now c.args.root c.requires)
