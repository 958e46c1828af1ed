use Rattle.std.proofs.Common.{take}
use Rattle.rawref_links.specs.Cuts.{MovesAt}
use Rattle.rawref_links.proofs.cut.move_all.Given as goal

abbrev pub invariant-loop-number : goal.invariant-loop-number
invariant-loop-number l = MovesAt l.initial.structures l.structures (take l.number-index l.numbers) l.to
