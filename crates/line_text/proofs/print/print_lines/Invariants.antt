use Rattle.std.proofs.Common.{◌≡◌, ◌++◌, take}
use Rattle.text_model.specs.Text.{lines_text}
use Rattle.line_text.proofs.print.print_lines.Given as goal

-- the lines so far are printed
abbrev pub invariant-loop-line : goal.invariant-loop-line
invariant-loop-line l = l.out.items ≡ l.fn.out.items ++ lines_text (take l.line-index l.lines)
