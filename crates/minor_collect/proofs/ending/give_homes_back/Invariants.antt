use Rattle.std.proofs.Common.{take}
use Rattle.minor_collect.proofs.GiveSteps.{GivesTo}
use Rattle.minor_collect.proofs.ending.give_homes_back.Given as goal

abbrev pub invariant-loop-p : goal.invariant-loop-p
invariant-loop-p l = GivesTo l.fn.parts l.parts l.dead (take l.p-index l.dead)
