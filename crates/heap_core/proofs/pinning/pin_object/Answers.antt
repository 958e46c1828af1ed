use Rattle.std.proofs.Common.{ℕ, IsTrue, true, [], ◌∷◌, sym, ap, ◌∙◌, subst}
use Rattle.text_model.specs.declared.command.Command.TheVariants.{Pin}
use Rattle.text_model.specs.declared.line.Line.TheVariants.{PinIs}
use Rattle.heap_space.specs.Places.{has}
use Rattle.store_model.specs.Identity.{pin_count, has_pin_room}
use Rattle.heap_parts.specs.Parts.{HeapParts}
use Rattle.heap_parts.specs.Pins.{with_pin}
use Rattle.heap_core.specs.Commands.{PartsDo}
use Rattle.heap_core.proofs.PinReady.{pin_ready, first_there, pins_bounded}
use Rattle.heap_core.proofs.PinCalls.{pinnable, pin_does, no_pin_does}
use Rattle.heap_core.proofs.pinning.pin_object.Goals as goal

pub pin-requires-clause-there : goal.pin-requires-clause-there
pin-requires-clause-there c =
    let now : HeapParts = c.args.parts.now in
    subst (λ (p : ℕ). IsTrue (has now.memory.blocks p)) (sym c.place-place.ensures) (first_there now c.args.root (pin_ready now c.args.root c.requires))

pub pin-requires-clause-few : goal.pin-requires-clause-few
pin-requires-clause-few c = pins_bounded c.args.parts.now c.args.root c.requires

pub pin-requires-clause-room : goal.pin-requires-clause-room
pin-requires-clause-room c =
    let now : HeapParts = c.args.parts.now in
    subst (λ (p : ℕ). IsTrue (has_pin_room now.setup.settings.pins now.pins (pin_count now.pins p))) (sym c.place-place.ensures)
    (pinnable now c.args.root (sym c.may_pin.ensures ∙ c.if-may_pin.true)).room

pub returns-then-may_pin : goal.returns-then-may_pin
returns-then-may_pin c =
    let now : HeapParts = c.args.parts.now in
    subst (λ (h : HeapParts). PartsDo now h (Pin c.args.root) (PinIs true ∷ [])) (sym (c.pin.ensures ∙ ap (λ (p : ℕ). with_pin now p) c.place-place.ensures))
    (pin_does now c.args.root c.requires (sym c.may_pin.ensures ∙ c.if-may_pin.true))

pub returns : goal.returns
returns c = no_pin_does c.args.parts.now c.args.root c.requires (sym c.may_pin.ensures ∙ c.if-may_pin.false)
