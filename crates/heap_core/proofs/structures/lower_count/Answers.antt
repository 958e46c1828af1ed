use Rattle.std.proofs.Common.{sym, subst}
use Rattle.text_model.specs.declared.command.Command.TheVariants.{Dec as DecCommand}
use Rattle.heap_parts.specs.Parts.{HeapParts}
use Rattle.heap_core.specs.Commands.{PartsDo}
use Rattle.heap_core.specs.StructLines.{dec_lines}
use Rattle.heap_core.proofs.StructCalls.{dec_does}
use Rattle.heap_core.proofs.StructReady.{can_fall}
use Rattle.heap_core.proofs.structures.lower_count.Goals as goal

pub dec-requires : goal.dec-requires
dec-requires c = can_fall c.args.parts.now c.args.number c.requires

pub returns : goal.returns
returns c =
    subst (λ (h : HeapParts). PartsDo c.args.parts.now h (DecCommand c.args.number) (dec_lines c.args.number c.dec.result)) (sym c.dec.ensures.lowered)
    (dec_does c.args.parts.now c.args.number c.dec.result c.requires c.dec.ensures.deallocated)
