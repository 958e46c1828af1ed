use Rattle.std.proofs.Common.{ℕ, [], sym, ap, ◌∙◌, subst}
use Rattle.text_model.specs.declared.command.Command.TheVariants.{MakeLink}
use Rattle.type_table.specs.Table.{with_value}
use Rattle.store_model.specs.Store.{Linked}
use Rattle.store_model.specs.Structs.{p_link_of}
use Rattle.heap_parts.specs.Parts.{HeapParts}
use Rattle.heap_core.specs.Commands.{PartsDo}
use Rattle.heap_core.proofs.StructReady.{make_link_ready}
use Rattle.heap_core.proofs.StructCalls.{make_link_does, on_done}
use Rattle.heap_core.proofs.structures.link_object.Goals as goal

pub make_link-requires-clause-absent : goal.make_link-requires-clause-absent
make_link-requires-clause-absent c = (make_link_ready c.args.parts.now c.args.p c.args.number c.args.root c.args.light c.args.own c.requires).absent

pub make_link-requires-clause-one : goal.make_link-requires-clause-one
make_link-requires-clause-one c = λ yes.
    let now : HeapParts = c.args.parts.now in
    ap (λ (place : ℕ). p_link_of now.links.structs place) c.place-place.ensures
    ∙ (make_link_ready now c.args.p c.args.number c.args.root c.args.light c.args.own c.requires).free yes

pub make_link-requires-clause-fits : goal.make_link-requires-clause-fits
make_link-requires-clause-fits c = (make_link_ready c.args.parts.now c.args.p c.args.number c.args.root c.args.light c.args.own c.requires).few

pub returns-clause-does : goal.returns-clause-does
returns-clause-does c =
    let now : HeapParts = c.args.parts.now in
    on_done c.make_link.result (λ is. subst (λ (h : HeapParts). PartsDo now h (MakeLink c.args.p c.args.number c.args.root c.args.light c.args.own) [])
    (sym (is ∙ ap (λ (place : ℕ). record now { links = record now.links { structs = with_value now.links.structs c.args.number (Linked c.args.p c.args.light place c.args.own) } }) c.place-place.ensures))
    (make_link_does now c.args.p c.args.number c.args.root c.args.light c.args.own c.requires)) c.make_link.ensures.ok
