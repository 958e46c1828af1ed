use Rattle.std.proofs.Common.{◌≡◌, take, true}
use Rattle.script_text.specs.Reader.{is_one_line}
use Rattle.script_text.proofs.bytes.line_length.Given as goal

abbrev pub invariant-loop-at : goal.invariant-loop-at
invariant-loop-at l = is_one_line (take l.at l.bytes) ≡ true
