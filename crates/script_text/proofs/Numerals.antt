-- The number that digits write, read from the front.
use Rattle.std.proofs.Common.{◌≡◌, ℕ, ◌+◌, ◌-◌, ◌*◌, ◌^◌, ◌<◌, ◌≤◌, suc, zero, true, false, List, [], ◌∷◌, length, drop, get_or, Some, None, refl, sym, ap, ◌∙◌, arith, add-one, drop-cons}
use Rattle.std.specs.Prelude.{nat_lt, ◌&&◌, ◌==◌}
use Rattle.std.proofs.Math.Nat.{pow-suc, mul-le-mul_left}
use Rattle.std.proofs.Math.ListN.{drop_of_length-le}
use Rattle.std.proofs.lemmas.Bool.{and_right, le-ltb, lt-ltb}
use Rattle.text_model.specs.Numbers.{is_digit, all_digits, value_of, digits_number, number_of}

regroup : (v d p r : ℕ) → (v * 10 + d) * p + r ≡ v * (p * 10) + (d * p + r)
regroup v d p r = grind arith

-- one digit more is read
value_of-step : (v b : ℕ) (rest : List ℕ)
    → (v * 10 + (b - 48)) * 10 ^ length rest + value_of rest ≡ v * 10 ^ length (b ∷ rest) + value_of (b ∷ rest)
value_of-step v b rest =
    regroup v (b - 48) (10 ^ length rest) (value_of rest)
    ∙ ap (λ p. v * p + ((b - 48) * 10 ^ length rest + value_of rest)) (sym (pow-suc 10 (length rest)))

power_above : (n : ℕ) → 1 ≤ 10 ^ n
power_above zero = omega arith
power_above (suc n) = omega (arith, pow-suc 10 n, power_above n)

-- what is read so far is at most the number
value_of-above : (v : ℕ) (rest all : List ℕ) → v * 10 ^ length rest + value_of rest ≡ value_of all → v ≤ value_of all
value_of-above v rest all e = omega (arith, mul-le-mul_left v (power_above (length rest)))

digits_number-large : (word : List ℕ) → 2 ^ 64 ≤ value_of word → digits_number word ≡ None
digits_number-large word large =
    rw (and_right (all_digits word) (nat_lt (value_of word) (2 ^ 64)) (le-ltb (value_of word) (2 ^ 64) large)) refl

pub digits_number-good : (word : List ℕ) → all_digits word ≡ true → value_of word < 2 ^ 64 → digits_number word ≡ Some (value_of word)
digits_number-good word good small = rw (good, lt-ltb (value_of word) (2 ^ 64) small) refl

pub number_of-empty : (word : List ℕ) → length word ≡ 0 → number_of word ≡ None
unfolding number_of
number_of-empty [] e = refl
number_of-empty (b ∷ bytes) e = absurd (omega arith)

pub number_of-zero : (word : List ℕ) → get_or word 0 0 ≡ 48 → 1 < length word → number_of word ≡ None
unfolding number_of
number_of-zero [] e long = absurd (omega arith)
number_of-zero (b ∷ []) e long = absurd (omega arith)
number_of-zero (b ∷ c ∷ bytes) e long = rw e refl

number_of-other : (b c : ℕ) (bytes : List ℕ) → (b == 48) ≡ false → number_of (b ∷ c ∷ bytes) ≡ digits_number (b ∷ c ∷ bytes)
unfolding number_of
number_of-other b c bytes e = rw e refl

pub number_of-digits : (word : List ℕ) → 0 < length word → ((get_or word 0 0 == 48) && nat_lt 1 (length word)) ≡ false
    → number_of word ≡ digits_number word
unfolding number_of
number_of-digits [] some e = absurd (omega arith)
number_of-digits (b ∷ []) some e = refl
number_of-digits (b ∷ c ∷ bytes) some e = number_of-other b c bytes (grind arith)

-- the digit at i is read
pub digit_read : (v i : ℕ) (ds : List ℕ) → i < length ds → v * 10 ^ length (drop i ds) + value_of (drop i ds) ≡ value_of ds
    → (v * 10 + (get_or ds i 0 - 48)) * 10 ^ length (drop (i + 1) ds) + value_of (drop (i + 1) ds) ≡ value_of ds
digit_read v i ds within e =
    rw add-one (value_of-step v (get_or ds i 0) (drop (suc i) ds)
    ∙ sym (ap (λ (l : List ℕ). v * 10 ^ length l + value_of l) (drop-cons ds i 0 within)) ∙ e)

pub digit_passes : (i : ℕ) (ds : List ℕ) → i < length ds → is_digit (get_or ds i 0) ≡ true
    → all_digits (drop (i + 1) ds) ≡ all_digits (drop i ds)
digit_passes i ds within e = rw (add-one, drop-cons ds i 0, e) refl

-- where the digits so far exceed 64 bits, so does the number
pub overflows : (v i : ℕ) (ds : List ℕ) → i < length ds → v * 10 ^ length (drop i ds) + value_of (drop i ds) ≡ value_of ds
    → 2 ^ 64 ≤ v * 10 + (get_or ds i 0 - 48) → digits_number ds ≡ None
overflows v i ds within e large =
    digits_number-large ds (omega (arith, value_of-above (v * 10 + (get_or ds i 0 - 48)) (drop (i + 1) ds) ds (digit_read v i ds within e)))

-- at the end the value is the number
pub all_read : (v i : ℕ) (ds : List ℕ) → length ds ≤ i → v * 10 ^ length (drop i ds) + value_of (drop i ds) ≡ value_of ds
    → all_digits (drop i ds) ≡ all_digits ds → v < 2 ^ 64 → digits_number ds ≡ Some v
all_read v i ds past e digits small =
    let none : drop i ds ≡ [] = drop_of_length-le ds past in
    let value : value_of ds ≡ v = sym e ∙ ap (λ (l : List ℕ). v * 10 ^ length l + value_of l) none ∙ omega arith in
    digits_number-good ds (sym digits ∙ ap all_digits none) (omega (arith, value)) ∙ ap Some value
