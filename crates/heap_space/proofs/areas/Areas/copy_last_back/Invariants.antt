use Rattle.std.proofs.Common.{◌≡◌, ℕ, ◌+◌, ◌-◌, ◌<◌}
use Rattle.heap_space.specs.Memory.{Memory}
use Rattle.heap_space.specs.Places.{word_at, run_at, with_run}
use Rattle.heap_space.specs.Seats.{IsSeat}
use Rattle.heap_space.specs.declared.runs.Seat.{Seat}
use Rattle.heap_space.proofs.areas.Areas.copy_last_back.Given as goal

-- the first m of n words are left to copy
pub record CopiesBack (now old : Memory) (source target : Seat) (from to n m : ℕ) : Type 0 where
  -- what is left to copy, written now, gives the blocks that are wanted
  pub left : with_run now.blocks to (run_at old.blocks from m) ≡ with_run old.blocks to (run_at old.blocks from n)
  pub source_seats : (j : ℕ) → j < n → IsSeat now.blocks (from + j) source.block (source.offset + j)
  pub target_seats : (j : ℕ) → j < n → IsSeat now.blocks (to + j) target.block (target.offset + j)
  -- the words that are still to be read stand as they were
  pub source_words : (j : ℕ) → j < m → word_at now.blocks (from + j) ≡ word_at old.blocks (from + j)
  pub same : now ≡ record old { blocks = now.blocks }

abbrev pub invariant-loop-step : goal.invariant-loop-step
invariant-loop-step l = CopiesBack l.self l.initial.self l.source l.target l.from l.to l.n (l.n - l.step)
