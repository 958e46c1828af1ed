use Rattle.std.proofs.Common.{◌≡◌, ◌≤◌, ◌-◌}
use Rattle.size_pages.specs.Growth.{IsOnlyOrder}
use Rattle.size_pages.specs.Calls.{NoneWaits}
use Rattle.size_pages.proofs.UsedLaws.{gathered}
use Rattle.size_pages.proofs.Pages.order_pages.Given as goal

abbrev pub invariant-loop-list : goal.invariant-loop-list
invariant-loop-list l = IsOnlyOrder l.fn.self l.self × (2 ≤ l.list) × ((n : NoneWaits l.fn.self l.space) → l.self.order.items ≡ gathered n.fits.lists.lists (l.list - 2))
