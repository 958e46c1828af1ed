use Rattle.std.proofs.Common.{ℕ, [], ◌∷◌, Option, sym, ap, ◌∙◌, subst}
use Rattle.text_model.specs.declared.command.Command.TheVariants.{FromObj}
use Rattle.text_model.specs.declared.line.Line.TheVariants.{FromObjIs}
use Rattle.store_model.specs.Structs.{p_link_of}
use Rattle.heap_parts.specs.Parts.{HeapParts}
use Rattle.heap_core.specs.Commands.{PartsDo}
use Rattle.heap_core.proofs.StructCalls.{from_obj_does}
use Rattle.heap_core.proofs.structures.linked_struct.Goals as goal

pub returns : goal.returns
returns c =
    let now : HeapParts = c.args.parts.now in
    subst (λ (number : Option ℕ). PartsDo now now (FromObj c.args.root) (FromObjIs number ∷ []))
    (sym (c.p_link.ensures ∙ ap (λ (place : ℕ). p_link_of now.links.structs place) c.place-place.ensures)) (from_obj_does now c.args.root c.requires)
