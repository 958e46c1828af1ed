use Rattle.std.proofs.Common.{◌∙◌, ◌/◌, ◌^◌, arith, sym, subst}
use Rattle.text_model.specs.ItemLine.{IsCommandInRange}
use Rattle.script_gen.proofs.AheadLaws.{filling-next, filling-in_range, drawn-range, collect-range}
use Rattle.script_gen.proofs.commands.Commands.next.Goals as goal

pub returns-then-self-lt-FILLING-clause-ahead : goal.returns-then-self-lt-FILLING-clause-ahead
returns-then-self-lt-FILLING-clause-ahead c =
    sym c.self.view_is ∙ filling-next c.self.inside.filled c.self.inside.drawn c.self.inside.left c.self.inside.collected c.filling_command-command.result c.if-self-lt-FILLING.true c.filling_command-command.ensures

pub returns-then-self-lt-FILLING-clause-in_range : goal.returns-then-self-lt-FILLING-clause-in_range
returns-then-self-lt-FILLING-clause-in_range c =
    filling-in_range c.self.inside.filled c.filling_command-command.result c.if-self-lt-FILLING.true c.filling_command-command.ensures

pub returns-then-self-gt0-clause-in_range : goal.returns-then-self-gt0-clause-in_range
returns-then-self-gt0-clause-in_range c =
    subst IsCommandInRange (sym c.draw_command.ensures)
    (drawn-range (c.draw_number-self-inside.result / 2 ^ 33) (omega (arith, c.draw_number-self-inside.type_inv)))

pub returns-clause-in_range : goal.returns-clause-in_range
returns-clause-in_range c = collect-range
