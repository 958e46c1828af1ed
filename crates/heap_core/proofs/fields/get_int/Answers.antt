use Rattle.std.proofs.Common.{ℕ, ◌+◌, [], ◌∷◌, sym, subst}
use Rattle.text_model.specs.declared.command.Command.TheVariants.{Get}
use Rattle.text_model.specs.declared.line.Line.TheVariants.{Got}
use Rattle.heap_parts.specs.Parts.{HeapParts, word_in}
use Rattle.heap_core.specs.declared.found.Found.{Found}
use Rattle.heap_core.specs.Commands.{PartsDo}
use Rattle.heap_core.proofs.FieldCalls.{get_does}
use Rattle.heap_core.proofs.FoundCalls.{get_finds, get_sees}
use Rattle.heap_core.proofs.fields.get_int.Goals as goal

pub unreachable-requires : goal.unreachable-requires
unreachable-requires c = get_finds c.args.parts.now c.args.root c.args.i c.args.found c.requires.ready c.requires.found c.in_default.is

pub read_int-requires-clause-seen : goal.read_int-requires-clause-seen
read_int-requires-clause-seen c =
    (get_sees c.args.parts.now c.args.root c.args.i c.args.found c.in-Some.seen c.requires.ready c.requires.found c.in-Some.is).0.found

pub read_int-requires-clause-item : goal.read_int-requires-clause-item
read_int-requires-clause-item c =
    (get_sees c.args.parts.now c.args.root c.args.i c.args.found c.in-Some.seen c.requires.ready c.requires.found c.in-Some.is).1

pub returns : goal.returns
returns c =
    let now : HeapParts = c.args.parts.now in
    let s = get_sees now c.args.root c.args.i c.args.found c.in-Some.seen c.requires.ready c.requires.found c.in-Some.is in
    subst (λ (v : ℕ). PartsDo now now (Get c.args.root c.args.i) (Got v ∷ [])) (sym c.read_int.ensures)
    (subst (λ (f : Found). PartsDo now now (Get c.args.root c.args.i) (Got (word_in now (f.view.int_start + c.args.i)) ∷ [])) (sym s.0.is)
    (get_does now c.args.root c.args.i c.requires.ready))
