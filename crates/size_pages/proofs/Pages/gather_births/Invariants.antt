use Rattle.std.proofs.Common.{◌+◌, ◌*◌}
use Rattle.size_pages.proofs.GatherLaws.{BirthsTo}
use Rattle.size_pages.proofs.Pages.gather_births.Given as goal

abbrev pub invariant-loop-slot : goal.invariant-loop-slot
invariant-loop-slot l = BirthsTo l.self l.space l.page l.initial.freed.items l.freed.items (l.page + 8 + l.slot * l.class)
