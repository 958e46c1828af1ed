-- What begins with a longer text begins with its front.
use Rattle.std.proofs.Common.{◌≡◌, ℕ, List, ◌++◌, ap, ◌∙◌, append_assoc}
use Rattle.line_text.specs.Printing.{StartsWith}

pub starts_behind : (text middle front more : List ℕ) → StartsWith text middle → middle ≡ front ++ more
    → StartsWith text front
starts_behind text middle front more starts is =
    (more ++ starts.0, starts.1 ∙ ap (λ (bytes : List ℕ). bytes ++ starts.0) is ∙ append_assoc front more starts.0)
