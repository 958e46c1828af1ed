-- Paths over places.
use Rattle.std.specs.Prelude.{◌≡◌, ℕ, Bool, IsTrue, List, [], ◌∷◌}

-- the path leads on from x, by steps of the given kind, and ends at y
abbrev pub Leads : (ℕ → ℕ → Bool) → ℕ → List ℕ → ℕ → Type 0
Leads step x [] y = x ≡ y
Leads step x (z ∷ path) y = IsTrue (step x z) × Leads step z path y
