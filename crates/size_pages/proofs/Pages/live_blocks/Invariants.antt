use Rattle.size_pages.proofs.ListingLaws.{ListedTo}
use Rattle.size_pages.proofs.Pages.live_blocks.Given as goal

abbrev pub invariant-loop-number : goal.invariant-loop-number
invariant-loop-number l = ListedTo l.self l.space l.initial.out.items l.out.items l.number
