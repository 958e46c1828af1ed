use Rattle.std.proofs.Common.{◌≡◌, ◌++◌, take}
use Rattle.minor_collect.specs.Walks.{births_destroyed}
use Rattle.minor_collect.proofs.ending.list_births.Given as goal

abbrev pub invariant-loop-p : goal.invariant-loop-p
invariant-loop-p l = l.destroyed.items ≡ l.fn.destroyed.items ++ births_destroyed l.parts (take l.p-index l.dead)
