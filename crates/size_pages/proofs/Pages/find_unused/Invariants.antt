use Rattle.std.proofs.Common.{◌≤◌, ◌-◌}
use Rattle.size_pages.specs.PageWords.{word_in}
use Rattle.size_pages.specs.Growth.{AllUsed}
use Rattle.size_pages.proofs.Pages.find_unused.Given as goal

abbrev pub invariant-loop-number : goal.invariant-loop-number
invariant-loop-number l = AllUsed (word_in l.space) l.self.page l.number × (l.number ≤ l.self.count)

abbrev pub decreases-loop-number : goal.decreases-loop-number
decreases-loop-number l = l.self.count - l.number
