-- A number of 64 bits and its decimal digits: each is read back as the other.
use Rattle.std.proofs.Common.{◌≡◌, ℕ, zero, suc, ◌+◌, ◌-◌, ◌*◌, ◌/◌, ◌%◌, ◌^◌, ◌<◌, ◌≤◌, Bool, true, false, cond, List, [], ◌∷◌, ◌++◌, length, take, get_or, Some, None, refl, sym, ap, ◌∙◌, arith, add-one}
use Rattle.std.specs.Prelude.{◌&&◌, ◌==◌, nat_lt, decimal}
use Rattle.std.proofs.Math.Nat.{pow-suc, mul-le-mul_right}
use Rattle.std.proofs.lemmas.Bool.{and_parts, and_from, lt-ltb, cond_both}
use Rattle.std.proofs.lemmas.Bool.Decides.{nat_tests}
use Rattle.std.proofs.lemmas.List.{length_push, take_more, take_all, get_or-take, get_or_append_left, length-take-le}
use Rattle.std.proofs.lemmas.Fmt.{decimal_by_steps, decimal_digit, decimal_step}
use Rattle.text_model.specs.Numbers.{is_digit, all_digits, value_of, digits_number, number_of}

and_assoc : (x y z : Bool) → (x && (y && z)) ≡ (x && y && z)
and_assoc true y z = refl
and_assoc false y z = refl

and_true : (x : Bool) → (x && true) ≡ x
and_true true = refl
and_true false = refl

-- one digit more at the end
all_digits-push : (digits : List ℕ) (c : ℕ) → all_digits (digits ++ c ∷ []) ≡ (all_digits digits && is_digit c)
all_digits-push [] c = and_true (is_digit c)
all_digits-push (b ∷ digits) c = ap (λ test. is_digit b && test) (all_digits-push digits c)
    ∙ and_assoc (is_digit b) (all_digits digits) (is_digit c)

regroup : (d p v c : ℕ) → d * (p * 10) + (v * 10 + c) ≡ (d * p + v) * 10 + c
regroup d p v c = grind arith

value_of-push : (digits : List ℕ) (c : ℕ) → value_of (digits ++ c ∷ []) ≡ value_of digits * 10 + (c - 48)
value_of-push [] c = omega arith
value_of-push (b ∷ digits) c =
    rw (length_push digits c, value_of-push digits c, add-one, pow-suc 10 (length digits))
    (regroup (b - 48) (10 ^ length digits) (value_of digits) (c - 48))

-- the word writes the number: it has digits alone, and no zero in front of others
pub record IsNumeral (word : List ℕ) (n : ℕ) : Type 0 where
  pub nonempty : 0 < length word
  pub digits : all_digits word ≡ true
  pub value : value_of word ≡ n
  pub alone : get_or word 0 0 ≡ 48 → (length word ≡ 1) × (n ≡ 0)

is_digit-from : (c : ℕ) → 48 ≤ c → c ≤ 57 → is_digit c ≡ true
is_digit-from c low high = grind (arith, nat_tests)

IsNumeral-digit : (n : ℕ) → n < 10 → IsNumeral ((48 + n) ∷ []) n
IsNumeral-digit n small = record {
  nonempty = omega arith;
  digits = and_from (is_digit (48 + n)) true (is_digit-from (48 + n) (omega arith) (omega arith)) refl;
  value = omega arith;
  alone = λ is_zero. (refl, omega arith);
}

IsNumeral-more : (n : ℕ) (word : List ℕ) → 10 ≤ n → IsNumeral word (n / 10) → IsNumeral (word ++ (48 + n % 10) ∷ []) n
IsNumeral-more n word large numeral = record {
  nonempty = omega (arith, length_push word (48 + n % 10));
  digits = rw (all_digits-push word (48 + n % 10))
      (and_from (all_digits word) (is_digit (48 + n % 10)) numeral.digits
      (is_digit-from (48 + n % 10) (omega arith) (omega arith)));
  value = omega (arith, value_of-push word (48 + n % 10), numeral.value);
  alone = λ is_zero. absurd
      (omega (
        arith,
        (numeral.alone
            (sym (get_or_append_left word ((48 + n % 10) ∷ []) 0 0 numeral.nonempty) ∙ is_zero)).1,
      ));
}

-- the digits of a number write it
pub IsNumeral-decimal : (n : ℕ) → n < 2 ^ 64 → IsNumeral (decimal n) n
IsNumeral-decimal = decimal_by_steps (λ n word. IsNumeral word n) IsNumeral-digit IsNumeral-more

number_from_digits : (word : List ℕ) (n : ℕ) → all_digits word ≡ true → value_of word ≡ n → n < 2 ^ 64
    → digits_number word ≡ Some n
number_from_digits word n digits value small = rw (digits, value, lt-ltb n (2 ^ 64) small) refl

-- a word that writes a number of 64 bits is read as that number
pub number_of-numeral : (word : List ℕ) (n : ℕ) → IsNumeral word n → n < 2 ^ 64 → number_of word ≡ Some n
unfolding number_of
number_of-numeral [] n numeral small = absurd (omega (arith, numeral.nonempty))
number_of-numeral (b ∷ []) n numeral small = number_from_digits (b ∷ []) n numeral.digits numeral.value small
number_of-numeral (b ∷ c ∷ bytes) n numeral small =
    cond_both (b == 48) None (digits_number (b ∷ c ∷ bytes)) (λ read. read ≡ Some n)
    (λ is_zero. let zero_first : b ≡ 48 = grind (arith, nat_tests) in
    absurd (omega (arith, (numeral.alone zero_first).0)))
    (λ other. number_from_digits (b ∷ c ∷ bytes) n numeral.digits numeral.value small)

-- the digits of a number are read as that number
pub number_of-decimal : (n : ℕ) → n < 2 ^ 64 → number_of (decimal n) ≡ Some n
number_of-decimal n small = number_of-numeral (decimal n) n (IsNumeral-decimal n small) small

some_inside : (b : Bool) (v n : ℕ) → cond b (Some v) None ≡ Some n → (b ≡ true) × (v ≡ n)
some_inside true v n e = (refl, cc)
some_inside false v n e = cc

digits_from_number : (word : List ℕ) (n : ℕ) → digits_number word ≡ Some n
    → (all_digits word ≡ true) × (value_of word ≡ n) × (n < 2 ^ 64)
digits_from_number word n is =
    let inside = some_inside (all_digits word && nat_lt (value_of word) (2 ^ 64)) (value_of word) n is in
    let tests = and_parts (all_digits word) (nat_lt (value_of word) (2 ^ 64)) inside.0 in
    (tests.0, inside.1, grind (arith, nat_tests, tests.1, inside.1))

-- what is read as a number writes it
pub numeral_from_number : (word : List ℕ) (n : ℕ) → number_of word ≡ Some n → IsNumeral word n × n < 2 ^ 64
unfolding number_of
numeral_from_number [] n is = cc
numeral_from_number (b ∷ []) n is =
    let found = digits_from_number (b ∷ []) n is in (
      record {
        nonempty = omega arith;
        digits = found.0;
        value = found.1;
        alone = λ is_zero.
            (refl, omega (arith, found.1));
      },
      found.2,
    )
numeral_from_number (b ∷ c ∷ bytes) n is =
    cond_both (b == 48) None (digits_number (b ∷ c ∷ bytes))
    (λ read. read ≡ Some n → IsNumeral (b ∷ c ∷ bytes) n × n < 2 ^ 64)
    (λ is_zero none. cc)
    (λ other is.
    let found = digits_from_number (b ∷ c ∷ bytes) n is in (
      record {
        nonempty = omega arith;
        digits = found.0;
        value = found.1;
        alone = λ is_zero. absurd
            (grind (arith, nat_tests));
      },
      found.2,
    ))
    is

power_above : (n : ℕ) → 1 ≤ 10 ^ n
power_above zero = omega arith
power_above (suc n) = omega (arith, pow-suc 10 n, power_above n)

-- a number whose first digit is not zero is above 0
value_above_zero : (word : List ℕ) → 0 < length word → all_digits word ≡ true → (get_or word 0 0 ≡ 48 → ⊥)
    → 0 < value_of word
value_above_zero [] some digits first = absurd (omega arith)
value_above_zero (b ∷ bytes) some digits first =
    let tests = and_parts (is_digit b) (all_digits bytes) digits in
    let low : 48 ≤ b = grind (arith, nat_tests, tests.0) in
    let above : 1 ≤ b - 48 = omega (arith, first) in
    omega (arith, power_above (length bytes), mul-le-mul_right (10 ^ length bytes) above)

-- the last digit of a number, and what stands in front of it
quotient_is : (n v d : ℕ) → n ≡ v * 10 + d → d < 10 → n / 10 ≡ v
quotient_is n v d e small = omega arith

remainder_is : (n v d : ℕ) → n ≡ v * 10 + d → d < 10 → n % 10 ≡ d
remainder_is n v d e small = omega arith

-- a word that writes a number of 64 bits is that number's digits
decimal_of_length : (k : ℕ) (word : List ℕ) (n : ℕ) → length word ≡ suc k → IsNumeral word n → n < 2 ^ 64
    → word ≡ decimal n
decimal_of_length zero [] n long numeral small = absurd (omega arith)
decimal_of_length zero (c ∷ []) n long numeral small =
    let tests = and_parts (is_digit c) true numeral.digits in
    let low : 48 ≤ c = grind (arith, nat_tests, tests.0) in
    let high : c ≤ 57 = grind (arith, nat_tests, tests.0) in
    let is : n ≡ c - 48 = omega (arith, numeral.value) in
    let back : c ≡ 48 + n = omega arith in
    ap (λ b. b ∷ []) back ∙ sym (decimal_digit n (omega arith))
decimal_of_length zero (c ∷ b ∷ bytes) n long numeral small = absurd (omega arith)
decimal_of_length (suc k) word n long numeral small =
    let front = take (suc k) word in
    let c = get_or word (suc k) 0 in
    let split : word ≡ front ++ c ∷ [] = sym (take_all (suc k + 1) word (omega arith))
    ∙ take_more word (suc k) 0 (omega arith) in
    let front_long : length front ≡ suc k = length-take-le (suc k) word (omega arith) in
    let tests = and_parts (all_digits front) (is_digit c)
    (sym (all_digits-push front c) ∙ ap all_digits (sym split) ∙ numeral.digits) in
    let value : value_of front * 10 + (c - 48) ≡ n = sym (value_of-push front c) ∙ ap value_of (sym split)
    ∙ numeral.value in
    let low : 48 ≤ c = grind (arith, nat_tests, tests.1) in
    let high : c ≤ 57 = grind (arith, nat_tests, tests.1) in
    let not_alone : get_or front 0 0 ≡ 48
    → ⊥ = λ is_zero. absurd
    (omega (arith, (numeral.alone (sym (get_or-take (suc k) word 0 0 (omega arith)) ∙ is_zero)).0)) in
    let above : 0 < value_of front = value_above_zero front (omega arith) tests.0 not_alone in
    let quotient : n / 10 ≡ value_of front = quotient_is n (value_of front) (c - 48) (sym value) (omega arith) in
    let remainder : n % 10 ≡ c - 48 = remainder_is n (value_of front) (c - 48) (sym value) (omega arith) in
    let front_is : front ≡ decimal (value_of front) = decimal_of_length k front (value_of front) front_long
    (record {
      nonempty = omega arith;
      digits = tests.0;
      value = refl;
      alone = λ is_zero. absurd
          (not_alone is_zero);
    }) (omega arith) in
    let last : c ≡ 48 + n % 10 = omega arith in
    split ∙ ap (λ bytes. bytes ++ c ∷ []) (front_is ∙ ap decimal (sym quotient))
    ∙ ap (λ b. decimal (n / 10) ++ b ∷ []) last ∙ sym (decimal_step n (omega arith) small)

-- what is read as a number is that number's digits, and the number has 64 bits
pub decimal_from_number : (word : List ℕ) (n : ℕ) → number_of word ≡ Some n → (word ≡ decimal n) × (n < 2 ^ 64)
decimal_from_number [] n is = absurd (omega (arith, (numeral_from_number [] n is).0.nonempty))
decimal_from_number (b ∷ bytes) n is =
    let read = numeral_from_number (b ∷ bytes) n is in
    (decimal_of_length (length bytes) (b ∷ bytes) n refl read.0 read.1, read.1)
