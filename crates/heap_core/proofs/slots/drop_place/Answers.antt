use Rattle.std.proofs.Common.{[], sym, subst}
use Rattle.text_model.specs.declared.command.Command.TheVariants.{DropRoot}
use Rattle.heap_parts.specs.Parts.{HeapParts}
use Rattle.heap_core.specs.Commands.{PartsDo}
use Rattle.heap_core.proofs.Ready.{drop_ready}
use Rattle.heap_core.proofs.SlotCalls.{drop_does}
use Rattle.heap_core.proofs.slots.drop_place.Goals as goal

pub set_slot-requires : goal.set_slot-requires
set_slot-requires c = drop_ready c.args.parts.now c.args.root c.requires

pub returns : goal.returns
returns c = subst (λ (h : HeapParts). PartsDo c.args.parts.now h (DropRoot c.args.root) []) (sym c.set_slot.ensures) (drop_does c.args.parts.now c.args.root)
