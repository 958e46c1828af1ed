use Rattle.std.proofs.Common.{◌<◌, length, take, get_or, ap, ◌∙◌, arith}
use Rattle.std.proofs.lemmas.Bool.{ne_eqb}
use Rattle.std.proofs.lemmas.List.{take_more}
use Rattle.script_text.specs.Reader.{is_one_line}
use Rattle.script_text.proofs.KnownLines.{is_one_line-push}
use Rattle.script_text.proofs.bytes.line_length.Goals as goal

pub returns-then-byte-eq10 : goal.returns-then-byte-eq10
returns-then-byte-eq10 c = record { within = omega arith; lf = c.if-byte-eq10.true; front = c.loop-at.invariant }

pub loop-at-preserved : goal.loop-at-preserved
loop-at-preserved c =
    let bytes = c.args.bytes.now in
    let within : c.loop-at.at < length bytes = omega arith in
    ap is_one_line (take_more bytes c.loop-at.at 0 within)
    ∙ is_one_line-push (take c.loop-at.at bytes) (get_or bytes c.loop-at.at 0) c.loop-at.invariant (ne_eqb _ 10 c.if-byte-eq10.false)
