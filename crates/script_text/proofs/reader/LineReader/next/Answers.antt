use Rattle.std.proofs.Common.{◌<◌, Err, ap, ◌∙◌, arith}
use Rattle.std.proofs.lemmas.Result.{err_from_is_err_and}
use Rattle.script_text.specs.Reader.{line_limit}
use Rattle.script_text.proofs.ReaderAnswers.{hands_whole, hands_last, reads_too_many, reads_err}
use Rattle.script_text.proofs.reader.LineReader.next.Goals as goal

pub returns-then-self-eq-MAX_LINES-clause-reads : goal.returns-then-self-eq-MAX_LINES-clause-reads
returns-then-self-eq-MAX_LINES-clause-reads g c =
    let before = g.F.Files.rest c.args.files.now in
    let after = g.F.Files.rest c.next_byte.new.files in
    let held = c.self.inside.piece in
    let left = c.next_byte.new.self in
    let next = rw c.in-Some.is at c.in_ok-next_byte.ensures.byte in
    reads_too_many
    c.args.self.now held left c.self.inside.count c.in-Some.field-0 c.self.inside.ended before after
    c.self.view_is c.if-self-eq-MAX_LINES.true next

pub returns-in_err-length-clause-reads : goal.returns-in_err-length-clause-reads
returns-in_err-length-clause-reads g c =
    let before = g.F.Files.rest c.args.files.now in
    let after = g.F.Files.rest c.take_line.new.files in
    let held = c.self.inside.piece in
    let left = c.take_line.new.piece in
    let end = c.in_err-length.field-0.0 in
    let answer = c.from_residual-in_err-length.result in
    let error = err_from_is_err_and answer c.from_residual-in_err-length.ensures.1 in
    reads_err
    c.args.self.now _ held left c.self.inside.count c.self.inside.ended before after
    c.take_line.new.line end answer
    c.self.view_is c.if-self.false (omega (arith, c.self.invariant)) (error.1 ∙ ap Err error.2)
    (λ fault. c.in_err-length.ensures.fault (ap Err fault)) c.in_err-length.ensures.taken

pub returns-in-Whole-clause-reads : goal.returns-in-Whole-clause-reads
returns-in-Whole-clause-reads g c =
    let before = g.F.Files.rest c.args.files.now in
    let after = g.F.Files.rest c.take_line.new.files in
    let held = c.self.inside.piece in
    let left = c.take_line.new.piece in
    let line = rw c.in-Whole.is at c.in_ok-length.ensures.taken in
    let few : c.self.inside.count < line_limit = omega (arith, c.self.invariant) in
    hands_whole
    c.args.self.now held left c.self.inside.count c.in-Whole.length c.self.inside.ended before after
    c.take_line.new.line c.self.view_is c.if-self.false few line.0 line.1

pub returns-in-Last-clause-reads : goal.returns-in-Last-clause-reads
returns-in-Last-clause-reads g c =
    let before = g.F.Files.rest c.args.files.now in
    let after = g.F.Files.rest c.take_line.new.files in
    let held = c.self.inside.piece in
    let left = c.take_line.new.piece in
    let line = rw c.in-Last.is at c.in_ok-length.ensures.taken in
    let few : c.self.inside.count < line_limit = omega (arith, c.self.invariant) in
    hands_last
    c.args.self.now held left c.self.inside.count c.in-Last.length c.self.inside.ended before after
    c.take_line.new.line c.self.view_is few line.0 line.1 (omega arith) line.2 line.3
