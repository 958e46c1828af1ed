use Rattle.line_text.proofs.SpellingLaws.{words_text-injective}
use Rattle.line_text.proofs.print.print_line.Goals as goal

pub returns-in_err-print_words-clause-one_spelling : goal.returns-in_err-print_words-clause-one_spelling
returns-in_err-print_words-clause-one_spelling c other is_other same =
    words_text-injective other c.args.l.now is_other
    (record { proper = c.requires; in_range = c.print_words.ensures.in_range }) same

pub returns-clause-one_spelling : goal.returns-clause-one_spelling
returns-clause-one_spelling c other is_other same =
    words_text-injective other c.args.l.now is_other
    (record { proper = c.requires; in_range = c.print_words.ensures.in_range }) same
