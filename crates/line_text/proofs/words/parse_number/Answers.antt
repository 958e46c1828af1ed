use Rattle.std.proofs.Common.{rules, sym, arith, ◌∙◌}
use Rattle.line_text.proofs.NumberLaws.{number_of-empty, number_of-zero, number_of-plus, number_of-digits}
use Rattle.line_text.proofs.words.parse_number.Goals as goal

pub returns-then-is_empty : goal.returns-then-is_empty
returns-then-is_empty c = sym (number_of-empty c.args.word.now (search rules))

pub returns-then-word-gt1 : goal.returns-then-word-gt1
returns-then-word-gt1 c = sym (number_of-zero c.args.word.now (search rules) (search rules))

pub returns-then-word-eq43 : goal.returns-then-word-eq43
returns-then-word-eq43 c = sym (number_of-plus c.args.word.now (search rules) (search rules))

pub returns : goal.returns
returns c = c.parse_digits.ensures ∙ sym (number_of-digits c.args.word.now (search rules) (grind arith))
