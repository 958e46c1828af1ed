-- Two places of one hash are one place.
use Rattle.std.proofs.Common.{◌≡◌, ℕ, zero, suc, ◌+◌, ◌/◌, ◌≤◌, sym, ap, ◌∙◌, arith}
use Rattle.std.specs.Int.RustNames.{bit_xor}
use Rattle.std.specs.Int.Bits.{xor_shr, xor_assoc, xor_self, xor_zero_r}
use Rattle.shadow_ids.specs.Hash.{hash_of}

-- what was laid over a number comes off again
xor-xor : (n over : ℕ) → bit_xor (bit_xor n over) over ≡ n
xor-xor n over = xor_assoc n over over ∙ ap (bit_xor n) (xor_self over) ∙ xor_zero_r n

xor-cancel : (m n over : ℕ) → bit_xor m over ≡ bit_xor n over → m ≡ n
xor-cancel m n over same = sym (xor-xor m over) ∙ ap (λ x. bit_xor x over) same ∙ xor-xor n over

-- the hash without its lowest four bits is that of the place without them
hash_of-shifted : (place : ℕ) → hash_of place / 16 ≡ hash_of (place / 16)
hash_of-shifted place = xor_shr place (place / 16) 4

hash_of-injective_below : (bound m n : ℕ) → m ≤ bound → n ≤ bound → hash_of m ≡ hash_of n → m ≡ n
hash_of-injective_below zero m n low high same = omega arith
hash_of-injective_below (suc bound) m n low high same =
    let shifted : hash_of (m / 16) ≡ hash_of (n / 16) =
    sym (hash_of-shifted m) ∙ ap (λ hash. hash / 16) same ∙ hash_of-shifted n
    in
    let above : m / 16 ≡ n / 16 =
    hash_of-injective_below bound (m / 16) (n / 16) (omega arith) (omega arith) shifted
    in
    xor-cancel m n (n / 16) (ap (bit_xor m) (sym above) ∙ same)

pub hash_of-injective : (m n : ℕ) → hash_of m ≡ hash_of n → m ≡ n
hash_of-injective m n same = hash_of-injective_below (m + n) m n (omega arith) (omega arith) same
