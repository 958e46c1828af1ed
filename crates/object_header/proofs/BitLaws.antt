-- One bit of a number, and the number with its power added or taken off.
use Rattle.std.proofs.Common.{◌≡◌, ◌≢◌, ℕ, zero, suc, ◌+◌, ◌-◌, ◌*◌, ◌/◌, ◌%◌, ◌<◌, ◌≤◌, ◌^◌, max, ◌⊎◌, refl, sym, ap, ◌∙◌, inl, inr, arith, pow_pos}
use Rattle.std.specs.Int.{bit_at}
use Rattle.std.specs.Int.RustNames.{bit_or}
use Rattle.std.proofs.Math.Nat.{div-eq-sub-div}
use Rattle.std.proofs.lemmas.Bool.Decides.{eqb_tells}
use Rattle.std.proofs.lemmas.Nat.{or_disjoint, shr_split, mul-le}
use Rattle.std.proofs.lemmas.Nat.Bits.{and_pow, bit_at-lt, bit_at_or, bit_at-pow_same, bit_at-pow_other, same_from_bits}

below_two : (n : ℕ) → n < 2 → (n ≡ 0) ⊎ (n ≡ 1)
below_two zero l = inl refl
below_two (suc zero) l = inr (omega arith)
below_two (suc (suc n)) l = absurd (omega arith)

-- a bit is 0 or 1
pub bit_cases : (n k : ℕ) → (bit_at n k ≡ 0) ⊎ (bit_at n k ≡ 1)
bit_cases n k = below_two (bit_at n k) (bit_at-lt n k)

pub bit_at-or_pow_same : (n k : ℕ) → bit_at (bit_or n (2 ^ k)) k ≡ 1
bit_at-or_pow_same n k =
    bit_at_or n (2 ^ k) k ∙ ap (max (bit_at n k)) (bit_at-pow_same k) ∙ omega (arith, bit_at-lt n k)

pub bit_at-or_pow_other : (n k i : ℕ) → i ≢ k → bit_at (bit_or n (2 ^ k)) i ≡ bit_at n i
bit_at-or_pow_other n k i ne = bit_at_or n (2 ^ k) i ∙ ap (max (bit_at n i)) (bit_at-pow_other k i ne) ∙ omega arith

-- to set a bit that is clear adds its power
pub or_pow-clear : (n k : ℕ) → bit_at n k ≡ 0 → bit_or n (2 ^ k) ≡ n + 2 ^ k
or_pow-clear n k e = or_disjoint n (2 ^ k) (and_pow n k ∙ ap (λ b. b * 2 ^ k) e ∙ omega arith)

-- to set a bit that is set changes nothing
pub or_pow-set : (n k : ℕ) → bit_at n k ≡ 1 → bit_or n (2 ^ k) ≡ n
or_pow-set n k e = same_from_bits (bit_or n (2 ^ k)) n (λ i. elim (eqb_tells i k) [
  | inl is ↦ ap (bit_at (bit_or n (2 ^ k))) is.1 ∙ bit_at-or_pow_same n k ∙ sym e ∙ ap (bit_at n) (sym is.1)
  | inr is ↦ bit_at-or_pow_other n k i is.1
])

-- a number has the power of each of its bits
pub pow_le-set : (n k : ℕ) → bit_at n k ≡ 1 → 2 ^ k ≤ n
pow_le-set n k e =
    let some : 1 ≤ n / 2 ^ k = omega (arith, e) in
    omega (arith, mul-le 1 (2 ^ k) (n / 2 ^ k) (2 ^ k) some (omega arith), shr_split n k)

even_before : (d q : ℕ) → q ≡ d + 1 → q % 2 ≡ 1 → d % 2 ≡ 0
even_before d q next odd = omega arith

pub bit_at-sub_pow_same : (n k : ℕ) → bit_at n k ≡ 1 → bit_at (n - 2 ^ k) k ≡ 0
bit_at-sub_pow_same n k e =
    even_before ((n - 2 ^ k) / 2 ^ k) (n / 2 ^ k) (div-eq-sub-div (pow_pos k) (pow_le-set n k e)) e

pub bit_at-sub_pow_other : (n k i : ℕ) → bit_at n k ≡ 1 → i ≢ k → bit_at (n - 2 ^ k) i ≡ bit_at n i
bit_at-sub_pow_other n k i e ne =
    let whole : n - 2 ^ k + 2 ^ k ≡ n = omega (arith, pow_le-set n k e) in
    sym (bit_at-or_pow_other (n - 2 ^ k) k i ne)
    ∙ ap (λ m. bit_at m i) (or_pow-clear (n - 2 ^ k) k (bit_at-sub_pow_same n k e) ∙ whole)
