-- What reading numbers gives of words that write them, and which words it was then given.
use Rattle.std.proofs.Common.{◌≡◌, ℕ, ◌^◌, ◌<◌, Bool, true, false, List, [], ◌∷◌, Option, Some, None, Result, Ok, Err, refl, sym, ap, subst, inl, inr}
use Rattle.std.specs.Prelude.{decimal, bytes_eq, if◌then◌else◌}
use Rattle.std.proofs.lemmas.Bool.{cases_Bool}
use Rattle.std.proofs.lemmas.Slice.Eq.{bytes_eq-Decides}
use Rattle.text_model.specs.declared.item.BadLine.{BadLine}
use Rattle.text_model.specs.Numbers.{number_of, ◌>>=◌, number_or_syntax, number_word, no_word, one_number, two_numbers, three_numbers, five_numbers}
use Rattle.text_model.specs.ItemText.{decimals}
use Rattle.script_text.proofs.Decimals.{number_of-decimal, number_of-is}

-- Where two readings, one after the other, gave something, P follows if it follows from what each gave.
pub both_gave : {A B : Type 0} (P : Type 0) (r : Result A BadLine) (f : A → Result B BadLine) (b : B) → (r >>= f) ≡ Ok b
    → ((a : A) → r ≡ Ok a → f a ≡ Ok b → P) → P
both_gave P (Ok a) f b h next = next a refl h
both_gave P (Err e) f b h next = cc

-- the word is this keyword, or what stands behind the test read it
pub by_keyword : {A : Type 0} (P : List ℕ → Type 0) (word keyword : List ℕ) (taken passed : Result A BadLine) (a : A)
    → (if bytes_eq word keyword then taken else passed) ≡ Ok a → (taken ≡ Ok a → P keyword) → (passed ≡ Ok a → P word) → P word
by_keyword P word keyword taken passed a h here rest =
    elim (cases_Bool (bytes_eq word keyword)) [
      | inl e ↦ subst P (sym ((bytes_eq-Decides word keyword).0 e)) (here (rw e at h))
      | inr e ↦ rest (rw e at h)
    ]

-- a test found no number above the greatest of its place
pub ok_unless : {A : Type 0} (above : Bool) (a b : A) (bad : BadLine) → (if above then Err bad else Ok a) ≡ Ok b → (above ≡ false) × (a ≡ b)
ok_unless true a b bad h = cc
ok_unless false a b bad h = (refl, cc)

pub number_word-decimal : (n : ℕ) (words : List (List ℕ)) → n < 2 ^ 64 → number_word (decimal n ∷ words) ≡ Ok (n, words)
number_word-decimal n words small = ap (λ o. number_or_syntax o words) (number_of-decimal n small)

pub one_number-decimals : (a : ℕ) → a < 2 ^ 64 → one_number (decimals (a ∷ [])) ≡ Ok a
one_number-decimals a small = rw (number_word-decimal a [] small) refl

pub two_numbers-decimals : (a b : ℕ) → a < 2 ^ 64 → b < 2 ^ 64 → two_numbers (decimals (a ∷ b ∷ [])) ≡ Ok (a, b)
two_numbers-decimals a b first next = rw (number_word-decimal a (decimals (b ∷ [])) first, one_number-decimals b next) refl

pub three_numbers-decimals : (a b c : ℕ) → a < 2 ^ 64 → b < 2 ^ 64 → c < 2 ^ 64 → three_numbers (decimals (a ∷ b ∷ c ∷ [])) ≡ Ok (a, b, c)
three_numbers-decimals a b c first next last =
    rw (number_word-decimal a (decimals (b ∷ c ∷ [])) first, two_numbers-decimals b c next last) refl

pub five_numbers-decimals : (a b c d e : ℕ) → a < 2 ^ 64 → b < 2 ^ 64 → c < 2 ^ 64 → d < 2 ^ 64 → e < 2 ^ 64
    → five_numbers (decimals (a ∷ b ∷ c ∷ d ∷ e ∷ [])) ≡ Ok (a, b, c, d, e)
five_numbers-decimals a b c d e first second third fourth fifth =
    rw (
      number_word-decimal a (decimals (b ∷ c ∷ d ∷ e ∷ [])) first,
      number_word-decimal b (decimals (c ∷ d ∷ e ∷ [])) second,
      three_numbers-decimals c d e third fourth fifth,
    ) refl

number_or_syntax-is : (o : Option ℕ) (words : List (List ℕ)) (read : ℕ × List (List ℕ)) → number_or_syntax o words ≡ Ok read
    → (o ≡ Some read.0) × (words ≡ read.1)
number_or_syntax-is None words read h = cc
number_or_syntax-is (Some n) words read h =
    let same : (n, words) ≡ read = cc in
    (ap (λ x. Some x.0) same, ap (λ x. x.1) same)

pub number_word-is : (words : List (List ℕ)) (read : ℕ × List (List ℕ)) → number_word words ≡ Ok read
    → (words ≡ decimal read.0 ∷ read.1) × (read.0 < 2 ^ 64)
number_word-is [] read h = cc
number_word-is (word ∷ words) read h =
    let parts = number_or_syntax-is (number_of word) words read h in
    let number = number_of-is word read.0 parts.0 in
    (cc (number.0, parts.1), number.1)

pub no_word-is : (words : List (List ℕ)) (end : Unit {0}) → no_word words ≡ Ok end → words ≡ []
no_word-is [] end h = refl
no_word-is (word ∷ words) end h = cc

pub one_number-is : (words : List (List ℕ)) (a : ℕ) → one_number words ≡ Ok a → (words ≡ decimals (a ∷ [])) × (a < 2 ^ 64)
one_number-is words a h =
    both_gave _ (number_word words) (λ n. no_word n.1 >>= (λ end. Ok n.0)) a h (λ n first rest.
    both_gave _ (no_word n.1) (λ end. Ok n.0) a rest (λ end none same.
    let number = number_word-is words n first in
    let empty = no_word-is n.1 end none in
    let value : n.0 ≡ a = cc in
    (cc, subst (λ m. m < 2 ^ 64) value number.1)))

pub two_numbers-is : (words : List (List ℕ)) (read : ℕ × ℕ) → two_numbers words ≡ Ok read
    → (words ≡ decimals (read.0 ∷ read.1 ∷ [])) × (read.0 < 2 ^ 64) × (read.1 < 2 ^ 64)
two_numbers-is words read h =
    both_gave _ (number_word words) (λ a. one_number a.1 >>= (λ b. Ok (a.0, b))) read h (λ a first rest.
    both_gave _ (one_number a.1) (λ b. Ok (a.0, b)) read rest (λ b next same.
    let number = number_word-is words a first in
    let numbers = one_number-is a.1 b next in
    let pair : (a.0, b) ≡ read = cc in
    let value : a.0 ≡ read.0 = ap (λ x. x.0) pair in
    let other : b ≡ read.1 = ap (λ x. x.1) pair in
    (cc, subst (λ m. m < 2 ^ 64) value number.1, subst (λ m. m < 2 ^ 64) other numbers.1)))

pub three_numbers-is : (words : List (List ℕ)) (read : ℕ × ℕ × ℕ) → three_numbers words ≡ Ok read
    → (words ≡ decimals (read.0 ∷ read.1 ∷ read.2 ∷ [])) × (read.0 < 2 ^ 64) × (read.1 < 2 ^ 64) × (read.2 < 2 ^ 64)
three_numbers-is words read h =
    both_gave _ (number_word words) (λ a. two_numbers a.1 >>= (λ b. Ok (a.0, b.0, b.1))) read h (λ a first rest.
    both_gave _ (two_numbers a.1) (λ b. Ok (a.0, b.0, b.1)) read rest (λ b next same.
    let number = number_word-is words a first in
    let numbers = two_numbers-is a.1 b next in
    let triple : (a.0, b.0, b.1) ≡ read = cc in
    let one : a.0 ≡ read.0 = ap (λ x. x.0) triple in
    let two : b.0 ≡ read.1 = ap (λ x. x.1) triple in
    let three : b.1 ≡ read.2 = ap (λ x. x.2) triple in
    (cc, subst (λ m. m < 2 ^ 64) one number.1, subst (λ m. m < 2 ^ 64) two numbers.1, subst (λ m. m < 2 ^ 64) three numbers.2)))

pub five_numbers-is : (words : List (List ℕ)) (read : ℕ × ℕ × ℕ × ℕ × ℕ) → five_numbers words ≡ Ok read
    → words ≡ decimals (read.0 ∷ read.1 ∷ read.2 ∷ read.3 ∷ read.4 ∷ [])
five_numbers-is words read h =
    both_gave _ (number_word words) (λ a. number_word a.1 >>= (λ b. three_numbers b.1 >>= (λ c. Ok (a.0, b.0, c.0, c.1, c.2)))) read h (λ a first rest.
    both_gave _ (number_word a.1) (λ b. three_numbers b.1 >>= (λ c. Ok (a.0, b.0, c.0, c.1, c.2))) read rest (λ b second more.
    both_gave _ (three_numbers b.1) (λ c. Ok (a.0, b.0, c.0, c.1, c.2)) read more (λ c last same.
    let number = number_word-is words a first in
    let next = number_word-is a.1 b second in
    let numbers = three_numbers-is b.1 c last in
    let five : (a.0, b.0, c.0, c.1, c.2) ≡ read = cc in
    let one : a.0 ≡ read.0 = ap (λ x. x.0) five in
    let two : b.0 ≡ read.1 = ap (λ x. x.1) five in
    let three : c.0 ≡ read.2 = ap (λ x. x.2) five in
    let four : c.1 ≡ read.3 = ap (λ x. x.3) five in
    let last_one : c.2 ≡ read.4 = ap (λ x. x.4) five in
    cc)))
