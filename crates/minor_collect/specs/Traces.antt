-- How far a collection has come, by births: what is found, what of it is still to be opened, and what is left to look at.
use Rattle.std.specs.Prelude.{ℕ, Bool, IsTrue, ◌⊎◌, List}
use Rattle.object_model.specs.Sets.{is_in}
use Rattle.store_model.specs.Reach.{LeadsTo}

pub record Traces (entry : ℕ → Bool) (step : ℕ → ℕ → Bool) (young : ℕ → Bool) (found gray left : List ℕ) : Type 0 where
  pub entered : (x : ℕ) → IsTrue (entry x) → IsTrue (is_in x found) ⊎ IsTrue (is_in x left)
  pub followed : (x y : ℕ) → IsTrue (is_in x found) → IsTrue (step x y) → IsTrue (is_in x gray) ⊎ (IsTrue (is_in y found) ⊎ IsTrue (is_in y left))
  pub opened : (x : ℕ) → IsTrue (is_in x gray) → IsTrue (is_in x found)
  pub led : (x : ℕ) → IsTrue (is_in x found) → LeadsTo entry step x
  pub may : (x : ℕ) → IsTrue (is_in x left) → IsTrue (young x) → LeadsTo entry step x
