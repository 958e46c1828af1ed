-- Steps of a sweep, one after another.
use Rattle.std.specs.Prelude.{◌≡◌, ℕ, suc, List, [], ◌++◌}
use Rattle.std.specs.List.Sorted.{IsNonDecreasing, IsPermutation}
use Rattle.heap_space.specs.Memory.{Memory}

-- what one step does: from a sweeper and a memory to a sweeper and a memory, with the births freed
abbrev pub Step : Type 0 → Type 1
Step S = S → Memory → S → Memory → List ℕ → Type 0

-- so many steps lead from one sweeper and memory to another, and free these births, in the order of the steps
pub data Sweeps {S : Type 0} (step : Step S) : ℕ → S → Memory → S → Memory → List ℕ → Type 0 where
  Done : {s : S} {m : Memory} → Sweeps step 0 s m s m []
  Then : {n : ℕ} {a b c : S} {k l m : Memory} {first rest : List ℕ}
      → Sweeps step n a k b l first → step b l c m rest → Sweeps step (suc n) a k c m (first ++ rest)

-- so many steps were done, and the births that they freed stand in rising order behind those that were there
pub record HasSwept {S : Type 0} (step : Step S) (count : ℕ) (a : S) (k : Memory) (b : S) (m : Memory) (old new : List ℕ) : Type 0 where
  pub births : List ℕ
  pub sorted : List ℕ
  pub steps : Sweeps step count a k b m births
  pub same : IsPermutation births sorted
  pub rising : IsNonDecreasing sorted
  pub behind : new ≡ old ++ sorted
