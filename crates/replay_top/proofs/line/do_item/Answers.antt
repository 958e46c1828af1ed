use Rattle.std.proofs.Common.{List, Some, Ok, Err, sym, subst}
use Rattle.std.specs.Prelude.{All}
use Rattle.std.specs.Io.KnownBytes.{Appends}
use Rattle.text_model.specs.declared.line.Line.{Line}
use Rattle.text_model.specs.Text.{IsProper, lines_text}
use Rattle.replay_top.specs.Written.{WritesLines}
use Rattle.replay_top.proofs.UnitEnds.{says_item, unit_refused, unit_done, unit_exceeds, unit_exceeds_cut, lines_proper, lines_proper_at_limit}
use Rattle.replay_top.proofs.line.do_item.Goals as goal

pub write_lines-requires : goal.write_lines-requires
write_lines-requires g c =
    let placed = c.requires.placed in
    subst (λ (l : List Line). All IsProper l) (sym c.deref.ensures.value)
    (lines_proper placed.at c.args.item.now c.clear.new.self.items c.item.new.out.items c.args.session.now c.item.new.self c.args.heap.now c.item.new.heap
    placed.stands c.clear.ensures.items (c.in-Ok.ensures.answers placed.at placed.stands))

pub write_lines-requires-in-Err-HeapLimit : goal.write_lines-requires-in-Err-HeapLimit
write_lines-requires-in-Err-HeapLimit g c =
    let placed = c.requires.placed in
    let answer = rw c.in-Err-HeapLimit.field-0-is at c.in-Err-HeapLimit.ensures.answers placed.at placed.stands in
    subst (λ (l : List Line). All IsProper l) (sym c.deref-in-Err-HeapLimit.ensures.value)
    (lines_proper_at_limit placed.at c.args.item.now c.in-Err-HeapLimit.counted c.in-Err-HeapLimit.request c.in-Err-HeapLimit.limit
    c.clear.new.self.items c.item.new.out.items c.args.session.now c.item.new.self c.args.heap.now c.item.new.heap
    placed.stands c.clear.ensures.items answer)

pub returns-in-Ok-clause-ends : goal.returns-in-Ok-clause-ends
returns-in-Ok-clause-ends g c = λ p at.
    let before = g.K.Sink.written c.args.out.now in
    let after = g.K.Sink.written c.write_lines.new.out in
    unit_done p c.args.number (Ok (Some c.args.item.now)) c.args.item.now c.clear.new.self.items c.item.new.out.items before after c.item.new.self c.item.new.heap c.write_lines.result
    (says_item c.args.item.now) c.clear.ensures.items
    (c.in-Ok.ensures.answers p at)
    (subst (λ (l : List Line). WritesLines l before after c.write_lines.result) c.deref.ensures.value c.write_lines.ensures.ends)

pub returns-in-Ok-write_lines-clause-ends : goal.returns-in-Ok-write_lines-clause-ends
returns-in-Ok-write_lines-clause-ends g c = λ p at.
    let before = g.K.Sink.written c.args.out.now in
    let after = g.K.Sink.written c.write_lines-in-Err-HeapLimit.new.out in
    let answer = rw c.in-Err-HeapLimit.field-0-is at c.in-Err-HeapLimit.ensures.answers p at in
    unit_exceeds p c.args.number (Ok (Some c.args.item.now)) c.args.item.now c.in-Err-HeapLimit.counted c.in-Err-HeapLimit.request c.in-Err-HeapLimit.limit
    c.clear.new.self.items c.item.new.out.items before after c.args.session.now c.item.new.self c.args.heap.now c.item.new.heap
    at (says_item c.args.item.now) c.clear.ensures.items answer
    (subst (λ (l : List Line). Appends before after (lines_text l)) c.deref-in-Err-HeapLimit.ensures.value c.in-Ok-write_lines.ensures.ends)

pub returns-in-Err-clause-ends : goal.returns-in-Err-clause-ends
returns-in-Err-clause-ends g c = λ p at.
    let before = g.K.Sink.written c.args.out.now in
    let after = g.K.Sink.written c.write_lines-in-Err-HeapLimit.new.out in
    let answer = rw c.in-Err-HeapLimit.field-0-is at c.in-Err-HeapLimit.ensures.answers p at in
    unit_exceeds_cut p c.args.number (Ok (Some c.args.item.now)) c.args.item.now c.in-Err-HeapLimit.counted c.in-Err-HeapLimit.request c.in-Err-HeapLimit.limit
    c.clear.new.self.items c.item.new.out.items before after c.item.new.self c.item.new.heap c.in-Err.stop
    (says_item c.args.item.now) c.clear.ensures.items answer
    (subst (λ (l : List Line). WritesLines l before after (Err c.in-Err.stop)) c.deref-in-Err-HeapLimit.ensures.value c.in-Err.ensures.ends)

pub returns-in-Err-Malformed-clause-ends : goal.returns-in-Err-Malformed-clause-ends
returns-in-Err-Malformed-clause-ends g c = λ p at.
    let answer = rw c.in-Err-Malformed.field-0-is at c.in-Err-Malformed.ensures.answers p at in
    unit_refused p c.args.number (Ok (Some c.args.item.now)) c.args.item.now c.clear.new.self.items c.item.new.out.items c.in-Err-Malformed.reason
    (g.K.Sink.written c.args.out.now) c.item.new.self c.item.new.heap
    (says_item c.args.item.now) answer
