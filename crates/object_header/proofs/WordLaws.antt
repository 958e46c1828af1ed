-- The laws of a flag in a header word: what a change of one flag leaves.
use Rattle.std.proofs.Common.{◌≡◌, ◌≢◌, ℕ, zero, suc, ◌+◌, ◌-◌, ◌*◌, ◌<◌, ◌≤◌, ◌^◌, min, true, false, not, ◌==◌, nat_eq, if◌then◌else◌, refl, sym, ap, ◌∙◌, inl, inr, arith, pow-add, pow_pos, zero-mul}
use Rattle.std.specs.Int.{bit_at, bit_not, w64}
use Rattle.std.specs.Int.RustNames.{bit_and, bit_or}
use Rattle.std.proofs.lemmas.Bool.{ne_eqb}
use Rattle.std.proofs.lemmas.Bool.Decides.{eqb_tells}
use Rattle.std.proofs.lemmas.Nat.{or_lt, and_le_l}
use Rattle.std.proofs.lemmas.Nat.Bits.{and_pow, bit_at-lt, bit_at_and, bit_at_not, bit_at-pow_same, bit_at-pow_other, same_from_bits_below}
use Rattle.std.proofs.Math.Pow.{pow-lt}
use Rattle.object_header.specs.declared.flags.Flag.{Flag}
use Rattle.object_header.specs.Words.{IsHeader, type_of, bit_of, has_flag, with_flag, without_flag}
use Rattle.object_header.proofs.BitLaws.{bit_cases, pow_le-set, bit_at-or_pow_same, bit_at-or_pow_other, or_pow-clear, or_pow-set, bit_at-sub_pow_same, bit_at-sub_pow_other}
use Rattle.object_header.proofs.FlagLaws.{bit_of-least, bit_of-most, bit_of-distinct}

-- a flag tells its bit
pub has_flag-bit : (word : ℕ) (flag : Flag) (bit : ℕ) → bit_at word (bit_of flag) ≡ bit → has_flag word flag ≡ (bit == 1)
unfolding has_flag
has_flag-bit word flag bit e = ap (λ b. b == 1) e

pub with_flag-clear : (word : ℕ) (flag : Flag) → bit_at word (bit_of flag) ≡ 0 → with_flag word flag ≡ word + 2 ^ bit_of flag
unfolding with_flag
with_flag-clear word flag e = ap (λ b. if b then word else word + 2 ^ bit_of flag) (has_flag-bit word flag 0 e)

pub with_flag-set : (word : ℕ) (flag : Flag) → bit_at word (bit_of flag) ≡ 1 → with_flag word flag ≡ word
unfolding with_flag
with_flag-set word flag e = ap (λ b. if b then word else word + 2 ^ bit_of flag) (has_flag-bit word flag 1 e)

pub without_flag-clear : (word : ℕ) (flag : Flag) → bit_at word (bit_of flag) ≡ 0 → without_flag word flag ≡ word
unfolding without_flag
without_flag-clear word flag e = ap (λ b. if b then word - 2 ^ bit_of flag else word) (has_flag-bit word flag 0 e)

pub without_flag-set : (word : ℕ) (flag : Flag) → bit_at word (bit_of flag) ≡ 1 → without_flag word flag ≡ word - 2 ^ bit_of flag
unfolding without_flag
without_flag-set word flag e = ap (λ b. if b then word - 2 ^ bit_of flag else word) (has_flag-bit word flag 1 e)

-- to set a flag is to set its bit
pub with_flag-or : (word : ℕ) (flag : Flag) → with_flag word flag ≡ bit_or word (2 ^ bit_of flag)
with_flag-or word flag = elim (bit_cases word (bit_of flag)) [
  | inl e ↦ with_flag-clear word flag e ∙ sym (or_pow-clear word (bit_of flag) e)
  | inr e ↦ with_flag-set word flag e ∙ sym (or_pow-set word (bit_of flag) e)
]

pub bit_at-without_flag_same : (word : ℕ) (flag : Flag) → bit_at (without_flag word flag) (bit_of flag) ≡ 0
bit_at-without_flag_same word flag = elim (bit_cases word (bit_of flag)) [
  | inl e ↦ ap (λ n. bit_at n (bit_of flag)) (without_flag-clear word flag e) ∙ e
  | inr e ↦ ap (λ n. bit_at n (bit_of flag)) (without_flag-set word flag e) ∙ bit_at-sub_pow_same word (bit_of flag) e
]

pub bit_at-without_flag_other : (word : ℕ) (flag : Flag) (i : ℕ) → i ≢ bit_of flag
    → bit_at (without_flag word flag) i ≡ bit_at word i
bit_at-without_flag_other word flag i ne = elim (bit_cases word (bit_of flag)) [
  | inl e ↦ ap (λ n. bit_at n i) (without_flag-clear word flag e)
  | inr e ↦ ap (λ n. bit_at n i) (without_flag-set word flag e) ∙ bit_at-sub_pow_other word (bit_of flag) i e ne
]

-- no flag that is cleared makes the number greater
pub without_flag_le : (word : ℕ) (flag : Flag) → without_flag word flag ≤ word
without_flag_le word flag = elim (bit_cases word (bit_of flag)) [
  | inl e ↦ omega (arith, without_flag-clear word flag e)
  | inr e ↦ omega (arith, without_flag-set word flag e)
]

-- the same changes as the code makes them, by the mask of a flag
pub or_mask : (word mask : ℕ) (flag : Flag) → mask ≡ 2 ^ bit_of flag → bit_or word mask ≡ with_flag word flag
or_mask word mask flag is = ap (bit_or word) is ∙ sym (with_flag-or word flag)

bit_at-and_not : (word k i : ℕ) → k < 64 → i < 64
    → bit_at (bit_and word (bit_not w64 (2 ^ k))) i ≡ min (bit_at word i) (1 - bit_at (2 ^ k) i)
bit_at-and_not word k i low least =
    bit_at_and word (bit_not w64 (2 ^ k)) i
    ∙ ap (min (bit_at word i)) (bit_at_not w64 (2 ^ k) i (pow-lt {i = k} {j = 64} low) least)

pub and_not_mask : (word mask : ℕ) (flag : Flag) → word < 2 ^ 64 → mask ≡ 2 ^ bit_of flag
    → bit_and word (bit_not w64 mask) ≡ without_flag word flag
and_not_mask word mask flag fits is =
    let low : bit_of flag < 64 = omega (arith, bit_of-most flag) in
    ap (λ n. bit_and word (bit_not w64 n)) is
    ∙ same_from_bits_below 64 (bit_and word (bit_not w64 (2 ^ bit_of flag))) (without_flag word flag)
    (omega (arith, and_le_l word (bit_not w64 (2 ^ bit_of flag)))) (omega (arith, without_flag_le word flag))
    (λ i least. bit_at-and_not word (bit_of flag) i low least ∙ elim (eqb_tells i (bit_of flag)) [
      | inl same ↦ rw same.1 (omega (arith, bit_at-pow_same (bit_of flag), bit_at-without_flag_same word flag))
      | inr differs ↦
          (let clear : bit_at (2 ^ bit_of flag) i ≡ 0 = bit_at-pow_other (bit_of flag) i differs.1 in
          omega (arith, bit_at-lt word i, bit_at-without_flag_other word flag i differs.1))
    ])

masked-bit : (b p : ℕ) → b < 2 → 0 < p → not (nat_eq (b * p) 0) ≡ (b == 1)
masked-bit zero p l pos = ap (λ n. not (nat_eq n 0)) (zero-mul p)
masked-bit (suc zero) p l pos = ap not (ne_eqb (1 * p) 0 (λ e. absurd (omega (arith, e))))
masked-bit (suc (suc b)) p l pos = absurd (omega arith)

pub and_mask-has_flag : (word mask : ℕ) (flag : Flag) → mask ≡ 2 ^ bit_of flag
    → not (nat_eq (bit_and word mask) 0) ≡ has_flag word flag
and_mask-has_flag word mask flag is =
    ap (λ n. not (nat_eq (bit_and word n) 0)) is ∙ ap (λ n. not (nat_eq n 0)) (and_pow word (bit_of flag))
    ∙ masked-bit (bit_at word (bit_of flag)) (2 ^ bit_of flag) (bit_at-lt word (bit_of flag)) (pow_pos (bit_of flag))
    ∙ sym (has_flag-bit word flag (bit_at word (bit_of flag)) refl)

-- a flag that was set is set
pub has_flag-with_flag_same : (word : ℕ) (flag : Flag) → has_flag (with_flag word flag) flag ≡ true
has_flag-with_flag_same word flag =
    has_flag-bit (with_flag word flag) flag 1 (ap (λ n. bit_at n (bit_of flag)) (with_flag-or word flag) ∙ bit_at-or_pow_same word (bit_of flag))

-- and every other flag is as before
pub has_flag-with_flag_other : (word : ℕ) (flag other : Flag) → other ≢ flag
    → has_flag (with_flag word flag) other ≡ has_flag word other
has_flag-with_flag_other word flag other ne =
    has_flag-bit (with_flag word flag) other (bit_at word (bit_of other))
    (ap (λ n. bit_at n (bit_of other)) (with_flag-or word flag)
    ∙ bit_at-or_pow_other word (bit_of flag) (bit_of other) (bit_of-distinct other flag ne))
    ∙ sym (has_flag-bit word other (bit_at word (bit_of other)) refl)

-- a flag that was cleared is not set
pub has_flag-without_flag_same : (word : ℕ) (flag : Flag) → has_flag (without_flag word flag) flag ≡ false
has_flag-without_flag_same word flag = has_flag-bit (without_flag word flag) flag 0 (bit_at-without_flag_same word flag)

-- and every other flag is as before
pub has_flag-without_flag_other : (word : ℕ) (flag other : Flag) → other ≢ flag
    → has_flag (without_flag word flag) other ≡ has_flag word other
has_flag-without_flag_other word flag other ne =
    has_flag-bit (without_flag word flag) other (bit_at word (bit_of other))
    (bit_at-without_flag_other word flag (bit_of other) (bit_of-distinct other flag ne))
    ∙ sym (has_flag-bit word other (bit_at word (bit_of other)) refl)

-- the power of a flag is a multiple of the words of all types
pow_bit_of : (flag : Flag) → 2 ^ bit_of flag ≡ 2 ^ 16 * 2 ^ (bit_of flag - 16)
pow_bit_of flag =
    let above : bit_of flag ≡ 16 + (bit_of flag - 16) = omega (arith, bit_of-least flag) in
    ap (λ k. 2 ^ k) above ∙ pow-add 2 16 (bit_of flag - 16)

-- a flag changes no type
pub type_of-with_flag : (word : ℕ) (flag : Flag) → type_of (with_flag word flag) ≡ type_of word
type_of-with_flag word flag = elim (bit_cases word (bit_of flag)) [
  | inl e ↦ ap type_of (with_flag-clear word flag e) ∙ omega (arith, pow_bit_of flag)
  | inr e ↦ ap type_of (with_flag-set word flag e)
]

pub type_of-without_flag : (word : ℕ) (flag : Flag) → type_of (without_flag word flag) ≡ type_of word
type_of-without_flag word flag = elim (bit_cases word (bit_of flag)) [
  | inl e ↦ ap type_of (without_flag-clear word flag e)
  | inr e ↦ ap type_of (without_flag-set word flag e) ∙ omega (arith, pow_bit_of flag, pow_le-set word (bit_of flag) e)
]

-- a header stays one
pub IsHeader-with_flag : (word : ℕ) (flag : Flag) → IsHeader word → IsHeader (with_flag word flag)
IsHeader-with_flag word flag h =
    rw with_flag-or (or_lt 26 word (2 ^ bit_of flag) h (pow-lt {i = bit_of flag} {j = 26} (bit_of-most flag)))

pub IsHeader-without_flag : (word : ℕ) (flag : Flag) → IsHeader word → IsHeader (without_flag word flag)
IsHeader-without_flag word flag h = omega (arith, without_flag_le word flag)

-- to set what is set, or to clear what is clear, changes nothing
pub with_flag-stays : (word : ℕ) (flag : Flag) → has_flag word flag ≡ true → with_flag word flag ≡ word
unfolding with_flag
with_flag-stays word flag e = rw e refl

pub without_flag-stays : (word : ℕ) (flag : Flag) → has_flag word flag ≡ false → without_flag word flag ≡ word
unfolding without_flag
without_flag-stays word flag e = rw e refl

-- the laws of flags, for a caller's proofs
pub ruleset word_flags =
    (has_flag-with_flag_same, has_flag-with_flag_other, has_flag-without_flag_same, has_flag-without_flag_other, type_of-with_flag, type_of-without_flag, IsHeader-with_flag, IsHeader-without_flag)
