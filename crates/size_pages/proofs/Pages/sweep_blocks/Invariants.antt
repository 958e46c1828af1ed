use Rattle.std.proofs.Common.{◌+◌, ◌*◌}
use Rattle.size_pages.proofs.SweepLaws.{SweptTo}
use Rattle.size_pages.proofs.Pages.sweep_blocks.Given as goal

abbrev pub invariant-loop-slot : goal.invariant-loop-slot
invariant-loop-slot l = SweptTo l.self l.initial.space l.space l.page (l.page + 8 + l.slot * l.class)
