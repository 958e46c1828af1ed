use Rattle.script_text.proofs.Spaced.{line_ended}
use Rattle.script_text.proofs.print.print_line.Goals as goal

pub returns-clause-ok : goal.returns-clause-ok
returns-clause-ok c =
    line_ended c.extend_from_slice-2.result c.args.out.now.items c.args.first.now c.extend_from_slice.new.self.items c.print_numbers.new.out.items
    c.extend_from_slice-2.new.self.items c.args.numbers.now c.in_ok-extend_from_slice.ensures.items c.in_ok-print_numbers.ensures.ok
    c.extend_from_slice-2.ensures.items
