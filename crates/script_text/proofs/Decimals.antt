-- A number's decimal digits are the one word that writes it.
use Rattle.std.proofs.Common.{◌≡◌, ℕ, ◌^◌, ◌<◌, Bool, true, false, List, [], ◌∷◌, length, get_or, Option, Some, None, refl, sym, ap, ◌∙◌, inl, inr, arith, rules}
use Rattle.std.specs.Prelude.{decimal, nat_lt, nat_le, ◌&&◌, ◌==◌, not, if◌then◌else◌}
use Rattle.std.proofs.lemmas.Bool.{cases_lt, and_parts, and_from, and_left, and_right, ltb-true, leb-true, eqb-false, ne_eqb, le-ltb, not_from_false}
use Rattle.std.proofs.lemmas.Str.Parse.{IsNumeralModel, numerals_by_weight}
use Rattle.std.proofs.lemmas.Fmt.{digits_decimal, digits_value-decimal, decimal-digits_value, decimal_nonempty, first_decimal, decimal_digit}
use Rattle.text_model.specs.Numbers.{is_digit, all_digits, value_of, digits_number, number_of}
use Rattle.script_text.proofs.Numerals.{digits_number-good, number_of-digits}
use Rattle.script_text.proofs.Separated.{is_word}

digits : IsNumeralModel (λ ds. all_digits ds ≡ true) value_of
digits = numerals_by_weight _ (search rules) value_of (search rules)

-- a digit is no space
digit-no_space : (b : ℕ) → is_digit b ≡ true → not (b == 32) ≡ true
digit-no_space b h =
    let parts = and_parts (nat_le 48 b) (nat_le b 57) h in
    let low = leb-true 48 b parts.0 in
    not_from_false (b == 32) (ne_eqb b 32 (λ e. absurd (omega arith)))

is_word-digits : (ds : List ℕ) → all_digits ds ≡ true → is_word ds ≡ true
is_word-digits [] h = refl
is_word-digits (b ∷ ds) h =
    let parts = and_parts (is_digit b) (all_digits ds) h in
    and_from (not (b == 32)) (is_word ds) (digit-no_space b parts.0) (is_word-digits ds parts.1)

pub is_word-decimal : (n : ℕ) → n < 2 ^ 64 → is_word (decimal n) ≡ true
is_word-decimal n small = is_word-digits (decimal n) (digits_decimal digits n small)

-- only `0` begins with 0
no_zero_first : (n : ℕ) → n < 2 ^ 64 → ((get_or (decimal n) 0 0 == 48) && nat_lt 1 (length (decimal n))) ≡ false
no_zero_first n small =
    elim (cases_lt 0 n) [
      | inl some ↦
          let first = first_decimal n some small in
          and_left (get_or (decimal n) 0 0 == 48) (nat_lt 1 (length (decimal n))) (ne_eqb (get_or (decimal n) 0 0) 48 (λ e. absurd (omega arith)))
      | inr none ↦
          let one : length (decimal n) ≡ 1 = ap length (decimal_digit n (omega arith)) in
          and_right (get_or (decimal n) 0 0 == 48) (nat_lt 1 (length (decimal n))) (le-ltb 1 (length (decimal n)) (omega arith))
    ]

pub number_of-decimal : (n : ℕ) → n < 2 ^ 64 → number_of (decimal n) ≡ Some n
number_of-decimal n small =
    let value = digits_value-decimal digits n small in
    number_of-digits (decimal n) (decimal_nonempty n small) (no_zero_first n small)
    ∙ digits_number-good (decimal n) (digits_decimal digits n small) (omega (arith, value))
    ∙ ap Some value

some_if : (b : Bool) (v n : ℕ) → (if b then Some v else None) ≡ Some n → (b ≡ true) × (v ≡ n)
some_if true v n h = (refl, cc)
some_if false v n h = cc

-- what the digits of a number are
digits_number-is : (ds : List ℕ) (n : ℕ) → 0 < length ds → (get_or ds 0 0 ≡ 48 → length ds ≡ 1) → digits_number ds ≡ Some n
    → (ds ≡ decimal n) × (n < 2 ^ 64)
digits_number-is ds n some first h =
    let read = some_if (all_digits ds && nat_lt (value_of ds) (2 ^ 64)) (value_of ds) n h in
    let parts = and_parts (all_digits ds) (nat_lt (value_of ds) (2 ^ 64)) read.0 in
    let small = ltb-true (value_of ds) (2 ^ 64) parts.1 in
    (sym (decimal-digits_value digits ds parts.0 some first small) ∙ ap decimal read.1, omega (arith, read.1, small))

none_if : (b : Bool) (o : Option ℕ) (n : ℕ) → (if b then None else o) ≡ Some n → (b ≡ false) × (o ≡ Some n)
none_if true o n h = cc
none_if false o n h = (refl, h)

-- the one word that writes a number
pub number_of-is : (word : List ℕ) (n : ℕ) → number_of word ≡ Some n → (word ≡ decimal n) × (n < 2 ^ 64)
unfolding number_of
number_of-is [] n h = cc
number_of-is (b ∷ []) n h = digits_number-is (b ∷ []) n (omega arith) (λ e. refl) h
number_of-is (b ∷ c ∷ bytes) n h =
    let parts = none_if (b == 48) (digits_number (b ∷ c ∷ bytes)) n h in
    digits_number-is (b ∷ c ∷ bytes) n (omega arith) (λ e. absurd (eqb-false b 48 parts.0 e)) parts.1
