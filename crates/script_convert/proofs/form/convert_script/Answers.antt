use Rattle.std.proofs.Common.{sym, ◌∙◌}
use Rattle.script_convert.proofs.FormEnds.{ends_binary, ends_unmarked, ends_pieces, ends_text, ends_unended}
use Rattle.script_convert.proofs.form.convert_script.Goals as goal

pub returns-then-is_binary-clause-ends : goal.returns-then-is_binary-clause-ends
returns-then-is_binary-clause-ends g c = λ script handed.
    ends_binary script (g.F.Files.rest c.args.files.now) (g.F.Files.rest c.convert_units.new.files) (g.K.Sink.written c.args.out.now)
    (g.K.Sink.written c.convert_units.new.out) c.args.reader.now c.convert_units.result handed (sym c.is_binary.ensures ∙ c.if-is_binary.true)
    (c.convert_units.ensures.ends script handed)

pub returns-in-Err-clause-ends : goal.returns-in-Err-clause-ends
returns-in-Err-clause-ends g c = λ script handed.
    ends_unmarked script (g.F.Files.rest c.args.files.now) (g.F.Files.rest c.args.files.now) (g.K.Sink.written c.args.out.now)
    (g.K.Sink.written c.write_all.new.out) c.args.reader.now handed (sym c.is_binary.ensures ∙ c.if-is_binary.false) c.in-Err.ensures.writes

pub returns-in-Err-convert_units-clause-ends : goal.returns-in-Err-convert_units-clause-ends
returns-in-Err-convert_units-clause-ends g c = λ script handed.
    ends_pieces script (g.F.Files.rest c.args.files.now) (g.F.Files.rest c.convert_units-2.new.files) (g.K.Sink.written c.args.out.now)
    (g.K.Sink.written c.write_all.new.out) (g.K.Sink.written c.convert_units-2.new.out) c.args.reader.now c.in-Err-convert_units.end handed
    (sym c.is_binary.ensures ∙ c.if-is_binary.false) c.in-Ok.ensures.writes (c.in-Err-convert_units.ensures.ends script handed)

pub returns-in-Ok-write_all-clause-ends : goal.returns-in-Ok-write_all-clause-ends
returns-in-Ok-write_all-clause-ends g c = λ script handed.
    ends_text script (g.F.Files.rest c.args.files.now) (g.F.Files.rest c.convert_units-2.new.files) (g.K.Sink.written c.args.out.now)
    (g.K.Sink.written c.write_all.new.out) (g.K.Sink.written c.convert_units-2.new.out) (g.K.Sink.written c.write_all-2.new.out) c.args.reader.now handed
    (sym c.is_binary.ensures ∙ c.if-is_binary.false) c.in-Ok.ensures.writes (c.in-Ok-convert_units.ensures.ends script handed) c.in-Ok-write_all.ensures.writes

pub returns-in-Err-write_all-clause-ends : goal.returns-in-Err-write_all-clause-ends
returns-in-Err-write_all-clause-ends g c = λ script handed.
    ends_unended script (g.F.Files.rest c.args.files.now) (g.F.Files.rest c.convert_units-2.new.files) (g.K.Sink.written c.args.out.now)
    (g.K.Sink.written c.write_all.new.out) (g.K.Sink.written c.convert_units-2.new.out) (g.K.Sink.written c.write_all-2.new.out) c.args.reader.now handed
    (sym c.is_binary.ensures ∙ c.if-is_binary.false) c.in-Ok.ensures.writes (c.in-Ok-convert_units.ensures.ends script handed) c.in-Err-write_all.ensures.writes
