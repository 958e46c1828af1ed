use Rattle.std.proofs.Common.{◌≡◌, ◌≢◌, ℕ, ◌+◌, Option, [], ◌∷◌, sym, ap, ◌∙◌, subst}
use Rattle.text_model.specs.declared.command.Command.TheVariants.{Load}
use Rattle.text_model.specs.declared.line.Line.TheVariants.{Loaded}
use Rattle.object_view.specs.Views.{HasObject}
use Rattle.heap_parts.specs.Parts.{HeapParts, word_in}
use Rattle.heap_parts.specs.Effects.{with_slot, birth_read, ref_place}
use Rattle.heap_core.specs.declared.found.Found.{Found}
use Rattle.heap_core.specs.Commands.{PartsDo}
use Rattle.heap_core.proofs.Ready.{load_ready}
use Rattle.heap_core.proofs.SlotCalls.{load_whole, load_does}
use Rattle.heap_core.proofs.FoundCalls.{Sees, load_finds, load_sees}
use Rattle.heap_core.proofs.slots.load_ref.Goals as goal

-- the word that was read is the reference
read : (heap : HeapParts) (root i place : ℕ) (seen : Found) → Sees heap root seen → place ≡ word_in heap (seen.view.ref_start + i)
    → place ≡ word_in heap (ref_place heap root i)
read heap root i place seen s is = is ∙ ap (λ (f : Found). word_in heap (f.view.ref_start + i)) s.is

pub unreachable-requires : goal.unreachable-requires
unreachable-requires c = load_finds c.args.parts.now c.args.to c.args.root c.args.i c.args.found c.requires.ready c.requires.found c.in_default.is

pub read_ref-place-requires-clause-seen : goal.read_ref-place-requires-clause-seen
read_ref-place-requires-clause-seen c =
    (load_sees c.args.parts.now c.args.to c.args.root c.args.i c.args.found c.in-Some.seen c.requires.ready c.requires.found c.in-Some.is).0.found

pub read_ref-place-requires-clause-item : goal.read_ref-place-requires-clause-item
read_ref-place-requires-clause-item c =
    (load_sees c.args.parts.now c.args.to c.args.root c.args.i c.args.found c.in-Some.seen c.requires.ready c.requires.found c.in-Some.is).1

pub birth_of-birth-requires : goal.birth_of-birth-requires
birth_of-birth-requires c =
    let now : HeapParts = c.args.parts.now in
    let s = (load_sees now c.args.to c.args.root c.args.i c.args.found c.in-Some.seen c.requires.ready c.requires.found c.in-Some.is).0 in
    subst (λ (place : ℕ). place ≢ 0 → HasObject now.memory now.setup.types place)
    (sym (read now c.args.root c.args.i c.read_ref-place.result c.in-Some.seen s c.read_ref-place.ensures))
    (load_whole now c.args.to c.args.root c.args.i c.requires.ready)

pub set_slot-requires : goal.set_slot-requires
set_slot-requires c = (load_ready c.args.parts.now c.args.to c.args.root c.args.i c.requires.ready).0

pub returns : goal.returns
returns c =
    let now : HeapParts = c.args.parts.now in
    let s = (load_sees now c.args.to c.args.root c.args.i c.args.found c.in-Some.seen c.requires.ready c.requires.found c.in-Some.is).0 in
    let place_is = read now c.args.root c.args.i c.read_ref-place.result c.in-Some.seen s c.read_ref-place.ensures in
    let place : ℕ = word_in now (ref_place now c.args.root c.args.i) in
    subst (λ (h : HeapParts). PartsDo now h (Load c.args.to c.args.root c.args.i) (Loaded c.birth_of-birth.result ∷ [])) (sym (c.set_slot.ensures ∙ ap (λ (p : ℕ). with_slot now c.args.to p) place_is))
    (subst (λ (b : Option ℕ). PartsDo now (with_slot now c.args.to place) (Load c.args.to c.args.root c.args.i) (Loaded b ∷ [])) (sym (c.birth_of-birth.ensures ∙ ap (λ (p : ℕ). birth_read (word_in now) p) place_is))
    (load_does now c.args.to c.args.root c.args.i c.requires.ready))
