-- What a text is after part of an append.
use Rattle.std.specs.Prelude.{◌≡◌, ℕ, List, ◌++◌}

-- the text begins with this one
abbrev pub StartsWith : List ℕ → List ℕ → Type 0
StartsWith text front = (rest : List ℕ) × (text ≡ front ++ rest)
