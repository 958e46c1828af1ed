use Rattle.std.proofs.Common.{ℕ, ◌+◌, [], sym, ◌∙◌, subst, ap}
use Rattle.text_model.specs.declared.command.Command.TheVariants.{Put}
use Rattle.heap_parts.specs.Parts.{HeapParts}
use Rattle.heap_parts.specs.Effects.{with_word_at}
use Rattle.heap_core.specs.declared.found.Found.{Found}
use Rattle.heap_core.specs.Commands.{PartsDo}
use Rattle.heap_core.proofs.FieldCalls.{put_does}
use Rattle.heap_core.proofs.FoundCalls.{put_finds, put_sees}
use Rattle.heap_core.proofs.fields.put_int.Goals as goal

pub unreachable-requires : goal.unreachable-requires
unreachable-requires c = put_finds c.args.parts.now c.args.root c.args.i c.args.v c.args.found c.requires.ready c.requires.found c.in_default.is

pub write_int-requires-clause-seen : goal.write_int-requires-clause-seen
write_int-requires-clause-seen c =
    (put_sees c.args.parts.now c.args.root c.args.i c.args.v c.args.found c.in-Some.seen c.requires.ready c.requires.found c.in-Some.is).0.found

pub write_int-requires-clause-item : goal.write_int-requires-clause-item
write_int-requires-clause-item c =
    (put_sees c.args.parts.now c.args.root c.args.i c.args.v c.args.found c.in-Some.seen c.requires.ready c.requires.found c.in-Some.is).1

pub returns : goal.returns
returns c =
    let now : HeapParts = c.args.parts.now in
    let s = put_sees now c.args.root c.args.i c.args.v c.args.found c.in-Some.seen c.requires.ready c.requires.found c.in-Some.is in
    subst (λ (h : HeapParts). PartsDo now h (Put c.args.root c.args.i c.args.v) []) (sym c.write_int.ensures)
    (subst (λ (f : Found). PartsDo now (with_word_at now (f.view.int_start + c.args.i) c.args.v) (Put c.args.root c.args.i c.args.v) []) (sym s.0.is)
    (put_does now c.args.root c.args.i c.args.v c.requires.ready))
