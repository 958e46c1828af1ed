use Rattle.minor_collect.proofs.EntrySteps.{EntriesTo}
use Rattle.minor_collect.proofs.roots.follow_entries.Given as goal

abbrev pub invariant-loop-p : goal.invariant-loop-p
invariant-loop-p l = EntriesTo l.fn.parts l.parts l.fn.moving l.moving l.p-index
