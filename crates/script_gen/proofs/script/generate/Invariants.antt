use Rattle.std.proofs.Common.{length}
use Rattle.script_gen.proofs.AheadLaws.{Prints}
use Rattle.script_gen.proofs.script.generate.Given as goal

abbrev pub invariant-loop-command : goal.invariant-loop-command
invariant-loop-command l = Prints l.fn.out.items l.out.items l.start l.commands l.ahead

abbrev pub decreases-loop-command : goal.decreases-loop-command
decreases-loop-command l = length l.ahead
