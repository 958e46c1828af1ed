-- What printing leaves in a buffer.
use Rattle.std.specs.Prelude.{◌≡◌, ℕ, List, [], ◌∷◌, ◌++◌}

-- words with a space before each
abbrev pub spaced : List (List ℕ) → List ℕ
spaced [] = []
spaced (word ∷ words) = 32 ∷ (word ++ spaced words)

-- what was in the buffer stands at its front
pub record Extends (old new : List ℕ) : Type 0 where
  pub rest : List ℕ
  pub is : new ≡ old ++ rest
