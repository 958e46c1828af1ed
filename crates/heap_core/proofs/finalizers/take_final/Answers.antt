use Rattle.std.proofs.Common.{◌≡◌, ◌≢◌, ℕ, ◌<◌, [], ◌∷◌, length, Option, sym, ap, ap₂, ◌∙◌, subst}
use Rattle.text_model.specs.declared.command.Command.TheVariants.{NextFinal}
use Rattle.text_model.specs.declared.line.Line.TheVariants.{NextIs}
use Rattle.object_view.specs.Views.{HasObject}
use Rattle.heap_parts.specs.Parts.{HeapParts, word_in}
use Rattle.heap_parts.specs.Effects.{with_slot, birth_read}
use Rattle.heap_parts.specs.Registers.{next_place, without_next}
use Rattle.heap_core.specs.Commands.{PartsDo}
use Rattle.heap_core.proofs.FinalizerReady.{next_ready}
use Rattle.heap_core.proofs.FinalizerCalls.{next_whole, next_does}
use Rattle.heap_core.proofs.StructCalls.{place_found}
use Rattle.heap_core.proofs.finalizers.take_final.Goals as goal

pub birth_of-birth-requires : goal.birth_of-birth-requires
birth_of-birth-requires c =
    let now : HeapParts = c.args.parts.now in
    let place : ℕ = place_found (next_place now c.args.queue) in
    let place_is : c.unwrap_or-place.result ≡ place = c.unwrap_or-place.ensures ∙ ap place_found c.next_final.ensures.first in
    let after : HeapParts = c.next_final.new.self in
    subst (λ (p : ℕ). p ≢ 0 → HasObject after.memory after.setup.types p) (sym place_is)
    (subst (λ (h : HeapParts). place ≢ 0 → HasObject h.memory h.setup.types place) (sym c.next_final.ensures.taken) (next_whole now c.args.to c.args.queue c.requires))

pub set_slot-requires : goal.set_slot-requires
set_slot-requires c =
    subst (λ (h : HeapParts). c.args.to < length h.slots) (sym c.next_final.ensures.taken) (next_ready c.args.parts.now c.args.to c.args.queue c.requires)

pub returns : goal.returns
returns c =
    let now : HeapParts = c.args.parts.now in
    let place : ℕ = place_found (next_place now c.args.queue) in
    let place_is : c.unwrap_or-place.result ≡ place = c.unwrap_or-place.ensures ∙ ap place_found c.next_final.ensures.first in
    let taken = c.next_final.ensures.taken in
    let becomes = c.set_slot.ensures ∙ ap₂ (λ (h : HeapParts) (p : ℕ). with_slot h c.args.to p) taken place_is in
    let birth_is = c.birth_of-birth.ensures ∙ ap₂ (λ (h : HeapParts) (p : ℕ). birth_read (word_in h) p) taken place_is in
    subst (λ (h : HeapParts). PartsDo now h (NextFinal c.args.to c.args.queue) (NextIs c.birth_of-birth.result ∷ [])) (sym becomes)
    (subst (λ (b : Option ℕ). PartsDo now (with_slot (without_next now c.args.queue) c.args.to place) (NextFinal c.args.to c.args.queue) (NextIs b ∷ [])) (sym birth_is)
    (next_does now c.args.to c.args.queue))
