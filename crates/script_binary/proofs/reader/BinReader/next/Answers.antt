use Rattle.std.proofs.Common.{◌≡◌, false, Err, ap, ◌∙◌, arith}
use Rattle.std.proofs.lemmas.Result.{err_from_is_err_and}
use Rattle.script_binary.specs.Reader.{BinState}
use Rattle.script_binary.proofs.ReaderAnswers.{reads_no_end, reads_no_item}
use Rattle.script_binary.proofs.reader.BinReader.next.Goals as goal

pub returns-in_err-item-clause-reads : goal.returns-in_err-item-clause-reads
returns-in_err-item-clause-reads g c =
    let before = g.F.Files.rest c.args.files.now in
    let between = g.F.Files.rest c.take_byte.new.files in
    let after = g.F.Files.rest c.take_body.new.files in
    let answer = c.from_residual-in_err-item.result in
    let end = c.in_err-item.field-0.0 in
    let error = err_from_is_err_and answer c.from_residual-in_err-item.ensures.1 in
    let unended : c.self.inside.ended ≡ false = ap (λ (r : BinState). r.ended) c.self.view_is ∙ c.requires in
    reads_no_item c.args.self.now c.self.inside.bytes c.take_byte.new.bytes c.take_body.new.bytes c.self.inside.count c.in_ok-tag.tag c.self.inside.ended
    before between after end answer (error.1 ∙ ap Err error.2) c.self.view_is unended (λ zero. absurd (omega arith)) (omega (arith, c.self.invariant))
    c.in_ok-tag.ensures.byte c.in_err-item.ensures.taken (λ fault. c.in_err-item.ensures.cause.none_held (ap Err fault))

pub returns-in_err-take_end-clause-reads : goal.returns-in_err-take_end-clause-reads
returns-in_err-take_end-clause-reads g c =
    let before = g.F.Files.rest c.args.files.now in
    let between = g.F.Files.rest c.take_byte.new.files in
    let after = g.F.Files.rest c.take_end.new.files in
    let answer = c.from_residual-in_err-take_end.result in
    let end = c.in_err-take_end.field-0.0 in
    let error = err_from_is_err_and answer c.from_residual-in_err-take_end.ensures.1 in
    reads_no_end c.args.self.now c.self.inside.bytes c.take_byte.new.bytes c.take_end.new.bytes c.self.inside.count c.in_ok-tag.tag c.self.inside.ended
    before between after end answer (error.1 ∙ ap Err error.2) c.self.view_is (omega arith) c.in_ok-tag.ensures.byte c.in_err-take_end.ensures.end
    (λ fault. c.in_err-take_end.ensures.cause.none_held (ap Err fault))
