-- Words that are written over others.
use Rattle.std.specs.Prelude.{ℕ, ◌+◌, ◌-◌, Bool, ◌&&◌, nat_le, nat_lt, if◌then◌else◌, List, [], ◌∷◌, length, slice_index}

-- whether the place b is one of the n places from a on
abbrev pub within : ℕ → ℕ → ℕ → Bool
within a n b = nat_le a b && nat_lt b (a + n)

-- words that lie from the place `base` on, where the places from a on hold xs
abbrev pub overlaid : ℕ → List ℕ → ℕ → List ℕ → List ℕ
overlaid base [] a xs = []
overlaid base (word ∷ words) a xs =
    (if within a (length xs) base then slice_index xs (base - a) else word) ∷ overlaid (base + 1) words a xs

-- words, where those from number `at` on are xs
abbrev pub with_words : List ℕ → ℕ → List ℕ → List ℕ
with_words words at xs = overlaid 0 words at xs
