use Rattle.std.proofs.Common.{sym, add-one}
use Rattle.std.proofs.lemmas.List.{take_rest}
use Rattle.line_text.proofs.WordLaws.{first_word-at, first_word-nowhere}
use Rattle.line_text.proofs.words.split_word.Goals as goal

pub returns-in_err-at : goal.returns-in_err-at
returns-in_err-at c = rw c.from_residual.ensures (sym (first_word-nowhere c.args.text.now (sym c.in_err-at.ensures)))

pub returns : goal.returns
returns c = rw (take_rest, add-one) (sym (first_word-at c.args.text.now c.in_ok-at.at (sym c.in_ok-at.ensures)))
