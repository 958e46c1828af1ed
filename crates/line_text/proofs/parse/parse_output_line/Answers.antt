use Rattle.line_text.proofs.SpellingLaws.{line_spelled, only_line, no_line}
use Rattle.line_text.proofs.parse.parse_output_line.Goals as goal

pub returns : goal.returns
returns c = record {
  spelled = line_spelled c.args.line.now _ c.read_line.ensures;
  only = only_line c.args.line.now _ c.read_line.ensures;
  none = no_line c.args.line.now _ c.read_line.ensures;
}
