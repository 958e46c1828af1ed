use Rattle.std.proofs.Common.{[], sym, subst}
use Rattle.text_model.specs.declared.command.Command.TheVariants.{Inc}
use Rattle.heap_parts.specs.Parts.{HeapParts}
use Rattle.heap_core.specs.Commands.{PartsDo}
use Rattle.heap_core.proofs.StructCalls.{inc_does}
use Rattle.heap_core.proofs.StructReady.{can_rise}
use Rattle.heap_core.proofs.structures.raise_count.Goals as goal

pub inc-requires : goal.inc-requires
inc-requires c = can_rise c.args.parts.now c.args.number c.requires

pub returns : goal.returns
returns c = subst (λ (h : HeapParts). PartsDo c.args.parts.now h (Inc c.args.number) []) (sym c.inc.ensures) (inc_does c.args.parts.now c.args.number c.requires)
