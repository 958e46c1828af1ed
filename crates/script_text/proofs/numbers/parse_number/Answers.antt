use Rattle.std.proofs.Common.{sym, ◌∙◌, arith}
use Rattle.script_text.proofs.Numerals.{number_of-empty, number_of-zero, number_of-digits}
use Rattle.script_text.proofs.numbers.parse_number.Goals as goal
use Rattle.script_text.proofs.numbers.parse_number.Goals.{else-word-eq48-via-then-word-eq48+else-word-gt1, else-word-eq48-via-else-word-eq48}

pub returns-then-is_empty : goal.returns-then-is_empty
returns-then-is_empty c = sym (number_of-empty c.args.word.now (grind arith))

pub returns-then-word-gt1 : goal.returns-then-word-gt1
returns-then-word-gt1 c = sym (number_of-zero c.args.word.now c.if-word-eq48.true (grind arith))

pub returns : goal.returns
returns c = c.parse_digits.ensures ∙ sym (number_of-digits c.args.word.now (grind arith) (elim c.else-word-eq48.branch [
  | else-word-eq48-via-then-word-eq48+else-word-gt1 w ↦ grind arith
  | else-word-eq48-via-else-word-eq48 w ↦ grind arith
]))
