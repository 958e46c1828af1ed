use Rattle.std.proofs.Common.{◌≡◌, ℕ, ◌+◌, ◌-◌, ◌<◌, ◌≤◌}
use Rattle.heap_space.specs.Memory.{Memory}
use Rattle.heap_space.specs.Places.{word_at, run_at, with_run}
use Rattle.heap_space.specs.Seats.{IsSeat}
use Rattle.heap_space.specs.declared.runs.Seat.{Seat}
use Rattle.heap_space.proofs.areas.Areas.copy_first_on.Given as goal

-- k of n words are copied
pub record CopiesWords (now old : Memory) (source target : Seat) (from to n k : ℕ) : Type 0 where
  -- what is left to copy, written now, gives the blocks that are wanted
  pub left : with_run now.blocks (to + k) (run_at old.blocks (from + k) (n - k))
      ≡ with_run old.blocks to (run_at old.blocks from n)
  pub source_seats : (j : ℕ) → j < n → IsSeat now.blocks (from + j) source.block (source.offset + j)
  pub target_seats : (j : ℕ) → j < n → IsSeat now.blocks (to + j) target.block (target.offset + j)
  -- the words that are still to be read stand as they were
  pub source_words : (j : ℕ) → k ≤ j → word_at now.blocks (from + j) ≡ word_at old.blocks (from + j)
  pub same : now ≡ record old { blocks = now.blocks }

abbrev pub invariant-loop-k : goal.invariant-loop-k
invariant-loop-k l = CopiesWords l.self l.initial.self l.source l.target l.from l.to l.n l.k
