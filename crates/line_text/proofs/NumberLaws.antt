-- What a word reads as a number, by its first byte and by what std's `parse` says of it.
use Rattle.std.proofs.Common.{◌≡◌, ℕ, ◌^◌, ◌<◌, true, false, List, [], ◌∷◌, length, get_or, Some, None, Result, Ok, Err, refl, sym, ap, arith, rules}
use Rattle.std.specs.Prelude.{◌&&◌, ◌==◌, nat_lt, IsAscii, IsUtf8}
use Rattle.std.specs.Result.{result_ok, OkIff}
use Rattle.std.specs.Str.Parse.{ParsesUnsigned}
use Rattle.std.proofs.lemmas.Bool.{and_parts, and_left, lt-ltb, ltb-true, cond_both, false_from_ne_true}
use Rattle.std.proofs.lemmas.Bool.Decides.{nat_tests}
use Rattle.std.proofs.lemmas.Str.{IsUtf8-from_ascii}
use Rattle.std.proofs.lemmas.Str.Ascii.{IsAscii-nil, IsAscii-cons}
use Rattle.std.proofs.lemmas.Str.Parse.{IsNumeralModel, numerals_by_weight, parse_plain}
use Rattle.text_model.specs.Numbers.{is_digit, all_digits, value_of, digits_number, number_of}

pub number_of-empty : (word : List ℕ) → length word ≡ 0 → number_of word ≡ None
unfolding number_of
number_of-empty [] empty = refl
number_of-empty (b ∷ bytes) empty = absurd (omega arith)

-- a zero in front of other digits
pub number_of-zero : (word : List ℕ) → get_or word 0 0 ≡ 48 → 1 < length word → number_of word ≡ None
unfolding number_of
number_of-zero [] is_zero long = absurd (omega arith)
number_of-zero (b ∷ []) is_zero long = absurd (omega arith)
number_of-zero (b ∷ c ∷ bytes) is_zero long = rw is_zero refl

number_of-other : (b c : ℕ) (bytes : List ℕ) → (b == 48) ≡ false
    → number_of (b ∷ c ∷ bytes) ≡ digits_number (b ∷ c ∷ bytes)
unfolding number_of
number_of-other b c bytes other = rw other refl

-- no zero stands in front of other digits
pub number_of-digits : (word : List ℕ) → 0 < length word → ((get_or word 0 0 == 48) && nat_lt 1 (length word)) ≡ false
    → number_of word ≡ digits_number word
unfolding number_of
number_of-digits [] some first = absurd (omega arith)
number_of-digits (b ∷ []) some first = refl
number_of-digits (b ∷ c ∷ bytes) some first = number_of-other b c bytes (grind arith)

-- what has another byte than digits is no number
no_digits : (word : List ℕ) → all_digits word ≡ false → digits_number word ≡ None
no_digits word other = rw (and_left (all_digits word) (nat_lt (value_of word) (2 ^ 64)) other) refl

pub number_of-plus : (word : List ℕ) → 0 < length word → get_or word 0 0 ≡ 43 → number_of word ≡ None
unfolding number_of
number_of-plus [] some is_plus = absurd (omega arith)
number_of-plus (b ∷ []) some is_plus = rw is_plus refl
number_of-plus (b ∷ c ∷ bytes) some is_plus = rw is_plus refl

digits_IsAscii : (word : List ℕ) → all_digits word ≡ true → IsAscii word
digits_IsAscii [] digits = IsAscii-nil
digits_IsAscii (b ∷ bytes) digits =
    let tests = and_parts (is_digit b) (all_digits bytes) digits in
    IsAscii-cons b bytes (grind (arith, nat_tests, tests.0)) (digits_IsAscii bytes tests.1)

-- what is no text has other bytes than digits
pub digits_number-no_text : (word : List ℕ) → (IsUtf8 word → ⊥) → digits_number word ≡ None
digits_number-no_text word no_text = no_digits word
    (false_from_ne_true (all_digits word) (λ digits. no_text (IsUtf8-from_ascii word (digits_IsAscii word digits))))

numerals : IsNumeralModel (λ word. all_digits word ≡ true) value_of
numerals = numerals_by_weight (λ word. all_digits word ≡ true) (search rules) value_of (search rules)

-- std's answer for a word is the number of its digits
parsed_digits : {E : Type 0} (word : List ℕ) (r : Result ℕ E)
    → OkIff r ((all_digits word ≡ true) × (0 < length word) × (value_of word < 2 ^ 64)) (value_of word)
    → 0 < length word → digits_number word ≡ result_ok r
parsed_digits word (Ok n) read some = rw (read.0.0, lt-ltb (value_of word) (2 ^ 64) read.0.2) (ap Some (sym read.1))
parsed_digits word (Err e) none some =
    cond_both (all_digits word && nat_lt (value_of word) (2 ^ 64)) (Some (value_of word)) None (λ read. read ≡ None)
    (λ reads. let tests = and_parts (all_digits word) (nat_lt (value_of word) (2 ^ 64)) reads in
    absurd (none (tests.0, some, ltb-true (value_of word) (2 ^ 64) tests.1)))
    (λ _. refl)

-- where no sign begins the word, std's `parse` reads its digits
pub digits_number-parsed : {E : Type 0} (word : List ℕ) (r : Result ℕ E) → ParsesUnsigned 64 10 word r
    → 0 < length word → (get_or word 0 0 ≡ 43 → ⊥) → digits_number word ≡ result_ok r
digits_number-parsed word r parses some no_sign = parsed_digits word r
    (parse_plain numerals 64 word r parses no_sign) some
