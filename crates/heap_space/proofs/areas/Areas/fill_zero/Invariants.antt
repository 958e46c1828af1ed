use Rattle.std.proofs.Common.{◌≡◌, ℕ, ◌+◌, ◌-◌, ◌<◌, replicate}
use Rattle.heap_space.specs.Memory.{Memory}
use Rattle.heap_space.specs.Places.{with_run}
use Rattle.heap_space.specs.Seats.{IsSeat}
use Rattle.heap_space.specs.declared.runs.Seat.{Seat}
use Rattle.heap_space.proofs.areas.Areas.fill_zero.Given as goal

-- k of n words are filled
pub record FillsWords (now old : Memory) (first : Seat) (a n k : ℕ) : Type 0 where
  -- what is left to fill, written now, gives the blocks that are wanted
  pub left : with_run now.blocks (a + k) (replicate (n - k) 0) ≡ with_run old.blocks a (replicate n 0)
  pub seats : (j : ℕ) → j < n → IsSeat now.blocks (a + j) first.block (first.offset + j)
  pub same : now ≡ record old { blocks = now.blocks }

abbrev pub invariant-loop-k : goal.invariant-loop-k
invariant-loop-k l = FillsWords l.self l.initial.self l.first l.a l.n l.k
