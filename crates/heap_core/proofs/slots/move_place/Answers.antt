use Rattle.std.proofs.Common.{ℕ, [], sym, ap, ◌∙◌, subst}
use Rattle.text_model.specs.declared.command.Command.TheVariants.{MoveRoot}
use Rattle.heap_parts.specs.Parts.{HeapParts}
use Rattle.heap_parts.specs.Effects.{with_slot}
use Rattle.heap_core.specs.Commands.{PartsDo}
use Rattle.heap_core.proofs.Ready.{move_ready}
use Rattle.heap_core.proofs.SlotCalls.{move_does}
use Rattle.heap_core.proofs.slots.move_place.Goals as goal

pub set_slot-requires : goal.set_slot-requires
set_slot-requires c = move_ready c.args.parts.now c.args.to c.args.from c.requires

pub returns : goal.returns
returns c = let now : HeapParts = c.args.parts.now in
    subst (λ (h : HeapParts). PartsDo now h (MoveRoot c.args.to c.args.from) []) (sym (c.set_slot.ensures ∙ ap (λ (p : ℕ). with_slot now c.args.to p) c.place-place.ensures))
    (move_does now c.args.to c.args.from)
