use Rattle.std.proofs.Common.{◌≢◌, ℕ, [], ◌∷◌, Option, sym, ap, ◌∙◌, subst}
use Rattle.text_model.specs.declared.command.Command.TheVariants.{ToObj}
use Rattle.text_model.specs.declared.line.Line.TheVariants.{ToObjIs}
use Rattle.object_view.specs.Views.{HasObject}
use Rattle.heap_parts.specs.Parts.{HeapParts, word_in}
use Rattle.heap_parts.specs.Effects.{with_slot, birth_read}
use Rattle.heap_core.specs.Commands.{PartsDo}
use Rattle.heap_core.proofs.StructReady.{to_obj_ready, is_there}
use Rattle.heap_core.proofs.StructCalls.{place_found, to_obj_whole, to_obj_does}
use Rattle.type_table.specs.Table.{value_at}
use Rattle.heap_core.proofs.structures.put_object.Goals as goal

pub linked_place-requires : goal.linked_place-requires
linked_place-requires c =
    let now = c.args.parts.now in let found = to_obj_ready now c.args.to c.args.number c.requires in is_there (value_at now.links.structs c.args.number) found.0 found.1

pub birth_of-birth-requires : goal.birth_of-birth-requires
birth_of-birth-requires c =
    let now : HeapParts = c.args.parts.now in
    subst (λ (place : ℕ). place ≢ 0 → HasObject now.memory now.setup.types place) (sym c.unwrap_or-place.ensures)
    (to_obj_whole now c.args.to c.args.number c.linked_place.result c.requires c.linked_place.ensures)

pub set_slot-requires : goal.set_slot-requires
set_slot-requires c = (to_obj_ready c.args.parts.now c.args.to c.args.number c.requires).2

pub returns : goal.returns
returns c =
    let now : HeapParts = c.args.parts.now in
    let place_is = c.unwrap_or-place.ensures in
    let place : ℕ = place_found c.linked_place.result in
    subst (λ (h : HeapParts). PartsDo now h (ToObj c.args.to c.args.number) (ToObjIs c.birth_of-birth.result ∷ [])) (sym (c.set_slot.ensures ∙ ap (λ (p : ℕ). with_slot now c.args.to p) place_is))
    (subst (λ (b : Option ℕ). PartsDo now (with_slot now c.args.to place) (ToObj c.args.to c.args.number) (ToObjIs b ∷ [])) (sym (c.birth_of-birth.ensures ∙ ap (λ (p : ℕ). birth_read (word_in now) p) place_is))
    (to_obj_does now c.args.to c.args.number c.linked_place.result c.requires c.linked_place.ensures))
