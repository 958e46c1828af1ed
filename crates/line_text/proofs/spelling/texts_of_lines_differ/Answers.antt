use Rattle.line_text.proofs.LinesLaws.{lines_text-injective}
use Rattle.line_text.proofs.spelling.texts_of_lines_differ.Goals as goal

pub returns : goal.returns
returns c a b all_a all_b same = lines_text-injective a b all_a all_b same
