-- The hash of a place.
use Rattle.std.specs.Prelude.{ℕ, ◌/◌, bit_xor}

-- the place, with its bits from the fifth on laid over it
abbrev pub hash_of : ℕ → ℕ
hash_of place = bit_xor place (place / 16)
