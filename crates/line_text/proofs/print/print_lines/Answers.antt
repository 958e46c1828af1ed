use Rattle.std.proofs.lemmas.Result.{err_from_is_err_and}
use Rattle.line_text.proofs.PrintingLaws.{starts_behind}
use Rattle.line_text.proofs.print.print_lines.Goals as goal

-- the lines before stand behind the old text
pub returns-in_err-print_line-clause-err : goal.returns-in_err-print_line-clause-err
returns-in_err-print_line-clause-err c =
    let p = err_from_is_err_and c.from_residual.result c.from_residual.ensures.1 in
    rw p.1 (starts_behind _ _ _ _ c.in_err-print_line.ensures.err c.loop-line.invariant)
