-- The front of a queue.
use Rattle.std.proofs.Common.{◌≡◌, ℕ, ◌<◌, List, [], ◌∷◌, length, drop, sym, ap, arith}
use Rattle.std.specs.Prelude.{slice_index_or}

pub front : (xs : List ℕ) (x : ℕ) → 0 < length xs → x ≡ slice_index_or xs 0 x → xs ≡ x ∷ drop 1 xs
front [] x some e = absurd (omega (arith, some))
front (y ∷ ys) x some e = ap (λ (z : ℕ). z ∷ ys) (sym e)
