use Rattle.std.proofs.Common.{vec_len}
use Rattle.size_pages.proofs.BeginSweepLaws.{WaitsBut}
use Rattle.size_pages.proofs.Pages.begin_sweep.Given as goal

abbrev pub invariant-loop-page : goal.invariant-loop-page
invariant-loop-page l = WaitsBut l.fn.self l.self l.fn.space l.space l.self.order.items

abbrev pub decreases-loop-page : goal.decreases-loop-page
decreases-loop-page l = vec_len l.self.order
