use Rattle.std.proofs.Common.{ℕ, [], sym, ap, ◌∙◌, subst}
use Rattle.text_model.specs.declared.command.Command.TheVariants.{Register}
use Rattle.object_view.specs.Views.{HasObject}
use Rattle.heap_parts.specs.Parts.{HeapParts}
use Rattle.heap_parts.specs.Registers.{is_final, with_registered}
use Rattle.heap_core.specs.Commands.{PartsDo}
use Rattle.heap_core.proofs.FinalizerReady.{register_ready}
use Rattle.heap_core.proofs.FinalizerCalls.{register_whole, register_queue, register_does}
use Rattle.heap_core.proofs.StructCalls.{on_done}
use Rattle.heap_core.proofs.finalizers.register_object.Goals as goal

pub register-requires-clause-object : goal.register-requires-clause-object
register-requires-clause-object c =
    let now : HeapParts = c.args.parts.now in
    subst (λ (place : ℕ). HasObject now.memory now.setup.types place) (sym c.place-place.ensures) (register_whole now c.args.root c.args.queue c.requires)

pub register-requires-clause-unlisted : goal.register-requires-clause-unlisted
register-requires-clause-unlisted c =
    let now : HeapParts = c.args.parts.now in
    ap (λ (place : ℕ). is_final now place) c.place-place.ensures ∙ (register_ready now c.args.root c.args.queue c.requires).unlisted

pub register-requires-clause-in_range : goal.register-requires-clause-in_range
register-requires-clause-in_range c = register_queue c.args.parts.now c.args.root c.args.queue c.requires

pub returns-clause-does : goal.returns-clause-does
returns-clause-does c =
    let now : HeapParts = c.args.parts.now in
    on_done c.register.result (λ is. subst (λ (h : HeapParts). PartsDo now h (Register c.args.root c.args.queue) [])
    (sym (is ∙ ap (λ (place : ℕ). with_registered now place c.args.queue) c.place-place.ensures))
    (register_does now c.args.root c.args.queue c.requires)) c.register.ensures.ok
