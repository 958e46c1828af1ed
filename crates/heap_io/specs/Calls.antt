-- The calls of an object in memory, some of which are to fail.
use Rattle.std.specs.Prelude.{ℕ, List, Contains}
use Rattle.heap_io.specs.Causes.{next_count}

pub record CallCounts : Type 0 where
  -- the numbers of the calls that are to fail
  pub fails : List ℕ
  -- how many calls were made
  pub made : ℕ
  -- how many of them failed
  pub faults : ℕ

-- The counts before the first call.
abbrev pub before_calls : List ℕ → CallCounts
before_calls fails = record { fails = fails; made = 0; faults = 0 }

-- The next call is on the list of those that are to fail. Calls are counted from 1.
abbrev pub IsToFail : CallCounts → Type 0
IsToFail calls = Contains calls.fails (next_count calls.made)

-- The counts after a call that did not fail.
abbrev pub after_success : CallCounts → CallCounts
after_success calls = record calls { made = next_count calls.made }

-- The counts after a call that failed.
abbrev pub after_fault : CallCounts → CallCounts
after_fault calls = record calls { made = next_count calls.made; faults = next_count calls.faults }
