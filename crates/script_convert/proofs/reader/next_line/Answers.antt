use Rattle.std.proofs.Common.{◌+◌, take, sym, ap, ◌∙◌, Err, arith}
use Rattle.text_model.specs.Script.{as_reading}
use Rattle.script_convert.specs.Reader.{HandedLines}
use Rattle.script_convert.proofs.LinesRead.{line_on, line_bad, line_fails, lines_end, reading_is, is_said, rest_at_end, short_front}
use Rattle.script_convert.proofs.reader.next_line.Goals as goal

pub returns-in-Ok-clause-reads : goal.returns-in-Ok-clause-reads
returns-in-Ok-clause-reads g c = λ script units handed.
    let reads = rw c.in-Ok-Some.field-0-is at c.in-Ok-Some.ensures.reads in
    line_on script (g.F.Files.rest c.args.files.now) (g.F.Files.rest c.next.new.files) c.args.reader.now c.next.new.self units
    (take c.in-Ok-Some.length c.next.new.line) c.in-Ok.item handed c.requires.may.1 reads.1
    (reading_is (c.args.reader.now.count + 1) (take c.in-Ok-Some.length c.next.new.line) (omega (arith, reads.1.count, reads.1.number)) (short_front c.in-Ok-Some.length c.next.new.line reads.0)
    ∙ ap as_reading (sym c.parse_line.ensures.reading ∙ c.in-Ok.is))

pub returns-in-Ok-clause-goes_on : goal.returns-in-Ok-clause-goes_on
returns-in-Ok-clause-goes_on g c =
    let reads = rw c.in-Ok-Some.field-0-is at c.in-Ok-Some.ensures.reads in (
      is_said c.in-Ok.item (take c.in-Ok-Some.length c.next.new.line) ((c.parse_line.ensures.grammar c.in-Ok.item).0 c.in-Ok.is),
      (reads.1.count ∙ ap (λ n. n + 1) c.requires.may.0, c.in-Ok-Some.ensures.in_step),
      omega (arith, reads.1.count, reads.1.number, c.requires.may.0),
    )

pub returns-in-Err-parse_line-clause-reads : goal.returns-in-Err-parse_line-clause-reads
returns-in-Err-parse_line-clause-reads g c = λ script units handed.
    let reads = rw c.in-Ok-Some.field-0-is at c.in-Ok-Some.ensures.reads in
    rw (← c.requires.may.0) (line_bad script (g.F.Files.rest c.args.files.now) (g.F.Files.rest c.next.new.files) c.args.reader.now c.next.new.self units
    (take c.in-Ok-Some.length c.next.new.line) c.bad_reason.result handed reads.1
    (reading_is (c.args.reader.now.count + 1) (take c.in-Ok-Some.length c.next.new.line) (omega (arith, reads.1.count, reads.1.number)) (short_front c.in-Ok-Some.length c.next.new.line reads.0)
    ∙ ap as_reading (sym c.parse_line.ensures.reading ∙ c.in-Err-parse_line.is) ∙ ap Err (sym c.bad_reason.ensures)))

pub returns-in-Ok-None-clause-reads : goal.returns-in-Ok-None-clause-reads
returns-in-Ok-None-clause-reads g c = λ script units handed.
    let reads = rw c.in-Ok-None.field-0-is at c.in-Ok-None.ensures.reads in
    lines_end script (g.F.Files.rest c.args.files.now) c.args.reader.now units handed reads.0

pub returns-in-Ok-None-clause-goes_on : goal.returns-in-Ok-None-clause-goes_on
returns-in-Ok-None-clause-goes_on g c =
    let reads = rw c.in-Ok-None.field-0-is at c.in-Ok-None.ensures.reads in
    rest_at_end c.next.new.self.held (g.F.Files.rest c.next.new.files) (c.in-Ok-None.ensures.in_step reads.1)

pub returns-in-Err-clause-reads : goal.returns-in-Err-clause-reads
returns-in-Err-clause-reads g c = λ script units handed.
    line_fails script (g.F.Files.rest c.args.files.now) (g.F.Files.rest c.next.new.files) c.args.reader.now c.next.new.self units c.next.new.line
    c.in-Err.end c.end_of_line.result (HandedLines script (g.F.Files.rest c.next.new.files) c.next.new.self) handed c.in-Err.ensures.reads (rw c.requires.may.0 c.end_of_line.ensures)
