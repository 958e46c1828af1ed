-- Two changes of flags of one word.
use Rattle.std.proofs.Common.{◌≡◌, ◌≢◌, ℕ, ◌+◌, ◌-◌, ◌≤◌, ◌^◌, false, sym, ap, ◌∙◌, inl, inr, arith}
use Rattle.std.specs.Int.{bit_at}
use Rattle.object_header.specs.declared.flags.Flag.{Flag}
use Rattle.object_header.specs.declared.flags.Flag.TheVariants.{Visited, Order1, Order2}
use Rattle.object_header.specs.Words.{bit_of, has_flag, with_flag, without_flag}
use Rattle.object_header.proofs.BitLaws.{bit_cases, pow_le-set, bit_at-or_pow_same, bit_at-or_pow_other}
use Rattle.object_header.proofs.FlagLaws.{bit_of-distinct}
use Rattle.object_header.proofs.WordLaws.{with_flag-clear, with_flag-set, without_flag-clear, without_flag-set, with_flag-or, bit_at-without_flag_other, has_flag-with_flag_other, has_flag-without_flag_same, without_flag-stays}
use Rattle.finalizer_order.specs.Passes.{settled_word}

bit-with_same : (w : ℕ) (f : Flag) → bit_at (with_flag w f) (bit_of f) ≡ 1
bit-with_same w f = ap (λ (n : ℕ). bit_at n (bit_of f)) (with_flag-or w f) ∙ bit_at-or_pow_same w (bit_of f)

bit-with_other : (w : ℕ) (f g : Flag) → g ≢ f → bit_at (with_flag w f) (bit_of g) ≡ bit_at w (bit_of g)
bit-with_other w f g ne = ap (λ (n : ℕ). bit_at n (bit_of g)) (with_flag-or w f) ∙ bit_at-or_pow_other w (bit_of f) (bit_of g) (bit_of-distinct g f ne)

pub without-with_same : (w : ℕ) (f : Flag) → without_flag (with_flag w f) f ≡ without_flag w f
without-with_same w f = elim (bit_cases w (bit_of f)) [
  | inl e ↦
      let a = without_flag-set (with_flag w f) f (bit-with_same w f) in
      let b = with_flag-clear w f e in
      let c = without_flag-clear w f e in
      let d : with_flag w f - 2 ^ bit_of f ≡ w = ap (λ (n : ℕ). n - 2 ^ bit_of f) b ∙ omega arith in
      a ∙ d ∙ sym c
  | inr e ↦ ap (λ (n : ℕ). without_flag n f) (with_flag-set w f e)
]

pub without-with_other : (w : ℕ) (f g : Flag) → g ≢ f → without_flag (with_flag w f) g ≡ with_flag (without_flag w g) f
without-with_other w f g ne =
    let kept : bit_at (without_flag w g) (bit_of f) ≡ bit_at w (bit_of f) = bit_at-without_flag_other w g (bit_of f) (bit_of-distinct f g (λ e. ne (sym e))) in
    elim (bit_cases w (bit_of f)) [
      | inl e ↦
          let b = with_flag-clear w f e in
          elim (bit_cases w (bit_of g)) [
            | inl d ↦ without_flag-clear (with_flag w f) g (bit-with_other w f g ne ∙ d) ∙ ap (λ (n : ℕ). with_flag n f) (sym (without_flag-clear w g d))
            | inr d ↦
                let x = without_flag-set (with_flag w f) g (bit-with_other w f g ne ∙ d) in
                let y = without_flag-set w g d in
                let z = with_flag-clear (without_flag w g) f (kept ∙ e) in
                let low = pow_le-set w (bit_of g) d in
                let left : with_flag w f - 2 ^ bit_of g ≡ (w + 2 ^ bit_of f) - 2 ^ bit_of g = ap (λ (n : ℕ). n - 2 ^ bit_of g) b in
                let right : without_flag w g + 2 ^ bit_of f ≡ (w - 2 ^ bit_of g) + 2 ^ bit_of f = ap (λ (n : ℕ). n + 2 ^ bit_of f) y in
                let middle : (w + 2 ^ bit_of f) - 2 ^ bit_of g ≡ (w - 2 ^ bit_of g) + 2 ^ bit_of f = moved w (2 ^ bit_of f) (2 ^ bit_of g) low in
                x ∙ left ∙ middle ∙ sym right ∙ sym z
          ]
      | inr e ↦ ap (λ (n : ℕ). without_flag n g) (with_flag-set w f e) ∙ sym (with_flag-set (without_flag w g) f (kept ∙ e))
    ]
  where
    moved : (w a b : ℕ) → b ≤ w → (w + a) - b ≡ (w - b) + a
    moved w a b l = omega (arith, l)

-- What a settled header does not tell.

pub settles-off1 : (w : ℕ) → settled_word (without_flag w Order1) ≡ settled_word w
settles-off1 w = ap (λ (n : ℕ). with_flag (without_flag n Order2) Visited) (without_flag-stays (without_flag w Order1) Order1 (has_flag-without_flag_same w Order1))

pub settles-on1 : (w : ℕ) → settled_word (with_flag w Order1) ≡ settled_word w
settles-on1 w = ap (λ (n : ℕ). with_flag (without_flag n Order2) Visited) (without-with_same w Order1)

pub settles-on2 : (w : ℕ) → settled_word (with_flag w Order2) ≡ settled_word w
settles-on2 w = ap (λ (n : ℕ). with_flag n Visited)
    (ap (λ (n : ℕ). without_flag n Order2) (without-with_other w Order2 Order1 (λ e. let no : ⊥ = cc in no)) ∙ without-with_same (without_flag w Order1) Order2)

pub record IsClear (w : ℕ) : Type 0 where
  pub no_order1 : has_flag w Order1 ≡ false
  pub no_order2 : has_flag w Order2 ≡ false

pub settles-clear : (w : ℕ) → IsClear w → settled_word w ≡ with_flag w Visited
settles-clear w c = ap (λ (n : ℕ). with_flag n Visited)
    (ap (λ (n : ℕ). without_flag n Order2) (without_flag-stays w Order1 c.no_order1) ∙ without_flag-stays w Order2 c.no_order2)

pub clear-visited : (w : ℕ) → IsClear w → IsClear (with_flag w Visited)
clear-visited w c = record {
  no_order1 = has_flag-with_flag_other w Visited Order1 (λ e. let no : ⊥ = cc in no) ∙ c.no_order1;
  no_order2 = has_flag-with_flag_other w Visited Order2 (λ e. let no : ⊥ = cc in no) ∙ c.no_order2;
}
