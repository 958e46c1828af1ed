use Rattle.std.proofs.Common.{sym, ◌∙◌}
use Rattle.line_text.proofs.NumberLaws.{digits_number-no_text, digits_number-parsed}
use Rattle.line_text.proofs.words.parse_digits.Goals as goal

-- the text is the word
pub returns-in-Ok : goal.returns-in-Ok
returns-in-Ok c = c.ok.ensures.value
    ∙ sym (digits_number-parsed c.args.word.now c.parse.result
    (rw c.in-Ok.ensures.cases.0 at c.parse.ensures.value.0) c.requires.some c.requires.no_sign)

pub returns-in-Err : goal.returns-in-Err
returns-in-Err c = sym (digits_number-no_text c.args.word.now c.in-Err.ensures.cases.0)
