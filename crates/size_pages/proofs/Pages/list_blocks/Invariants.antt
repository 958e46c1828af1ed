use Rattle.std.proofs.Common.{◌+◌, ◌*◌}
use Rattle.size_pages.proofs.ListingLaws.{ListsTo}
use Rattle.size_pages.proofs.Pages.list_blocks.Given as goal

abbrev pub invariant-loop-slot : goal.invariant-loop-slot
invariant-loop-slot l = ListsTo l.self l.space l.page l.initial.out.items l.out.items (l.page + 8 + l.slot * l.class)
