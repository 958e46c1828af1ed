use Rattle.std.proofs.Common.{◌≡◌, ◌≢◌, ℕ, Option, [], ◌∷◌, sym, ap, ◌∙◌, subst}
use Rattle.text_model.specs.declared.command.Command.TheVariants.{Deref}
use Rattle.text_model.specs.declared.line.Line.TheVariants.{Derefed}
use Rattle.object_view.specs.Views.{HasObject}
use Rattle.heap_parts.specs.Parts.{HeapParts, word_in}
use Rattle.heap_parts.specs.Effects.{with_slot, birth_read, layout_in}
use Rattle.heap_core.specs.declared.found.Found.{Found}
use Rattle.heap_core.specs.Commands.{PartsDo}
use Rattle.heap_core.proofs.FoundCalls.{Sees, deref_finds, deref_sees}
use Rattle.heap_core.proofs.WeakReady.{deref_ready}
use Rattle.heap_core.proofs.WeakCalls.{target_whole, deref_does}
use Rattle.heap_core.proofs.weak.deref_weak.Goals as goal

-- the target lies where it lies of the object in the slot
at-target : (now : HeapParts) (root place : ℕ) (seen : Found) → Sees now root seen → place ≡ word_in now seen.view.ref_start
    → place ≡ word_in now (layout_in now root).ref_start
at-target now root place seen s is = subst (λ (f : Found). place ≡ word_in now f.view.ref_start) s.is is

pub unreachable-requires : goal.unreachable-requires
unreachable-requires c = deref_finds c.args.parts.now c.args.to c.args.root c.args.found c.requires.ready c.requires.found c.in_default.is

pub read_target-place-requires-clause-seen : goal.read_target-place-requires-clause-seen
read_target-place-requires-clause-seen c =
    (deref_sees c.args.parts.now c.args.to c.args.root c.args.found c.in-Some.seen c.requires.ready c.requires.found c.in-Some.is).0.found

pub read_target-place-requires-clause-target : goal.read_target-place-requires-clause-target
read_target-place-requires-clause-target c =
    (deref_sees c.args.parts.now c.args.to c.args.root c.args.found c.in-Some.seen c.requires.ready c.requires.found c.in-Some.is).1

pub birth_of-birth-requires : goal.birth_of-birth-requires
birth_of-birth-requires c =
    let now = c.args.parts.now in
    let s = (deref_sees now c.args.to c.args.root c.args.found c.in-Some.seen c.requires.ready c.requires.found c.in-Some.is).0 in
    subst (λ (place : ℕ). place ≢ 0 → HasObject now.memory now.setup.types place) (sym (at-target now c.args.root c.read_target-place.result c.in-Some.seen s c.read_target-place.ensures))
    (target_whole now c.args.to c.args.root c.requires.ready)

pub set_slot-requires : goal.set_slot-requires
set_slot-requires c = (deref_ready c.args.parts.now c.args.to c.args.root c.requires.ready).0

pub returns : goal.returns
returns c =
    let now : HeapParts = c.args.parts.now in
    let s = (deref_sees now c.args.to c.args.root c.args.found c.in-Some.seen c.requires.ready c.requires.found c.in-Some.is).0 in
    let place_is = at-target now c.args.root c.read_target-place.result c.in-Some.seen s c.read_target-place.ensures in
    let place : ℕ = word_in now (layout_in now c.args.root).ref_start in
    subst (λ (h : HeapParts). PartsDo now h (Deref c.args.to c.args.root) (Derefed c.birth_of-birth.result ∷ [])) (sym (c.set_slot.ensures ∙ ap (λ (p : ℕ). with_slot now c.args.to p) place_is))
    (subst (λ (b : Option ℕ). PartsDo now (with_slot now c.args.to place) (Deref c.args.to c.args.root) (Derefed b ∷ [])) (sym (c.birth_of-birth.ensures ∙ ap (λ (p : ℕ). birth_read (word_in now) p) place_is))
    (deref_does now c.args.to c.args.root c.requires.ready))
