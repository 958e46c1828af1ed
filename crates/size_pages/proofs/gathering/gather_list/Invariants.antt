use Rattle.std.proofs.Common.{◌≡◌, ◌-◌, List, ℕ, vec_len, vec_capacity}
use Rattle.size_pages.specs.Gathering.{IsListFrom}
use Rattle.size_pages.proofs.WalkLaws.{IsWalked}
use Rattle.size_pages.proofs.gathering.gather_list.Given as goal

abbrev pub invariant-loop-page : goal.invariant-loop-page
invariant-loop-page l = (vec_capacity l.order ≡ vec_capacity l.initial.order) × ((list : List ℕ) → IsListFrom l.space l.first list → IsWalked l.space l.initial.order.items l.order.items l.page list)

abbrev pub decreases-loop-page : goal.decreases-loop-page
decreases-loop-page l = vec_capacity l.order - vec_len l.order
