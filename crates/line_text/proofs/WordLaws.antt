-- The words before and behind the first space.
use Rattle.std.proofs.Common.{◌≡◌, ℕ, zero, suc, get_or, ◌≤◌, ◌<◌, Bool, true, false, cond, List, [], ◌∷◌, ◌++◌, length, take, drop, Option, Some, None, refl, sym, ap, ◌∙◌, inl, inr, arith, option_map}
use Rattle.std.specs.Prelude.{not, ◌&&◌, ◌==◌, position}
use Rattle.std.specs.List.{position_or_len}
use Rattle.std.proofs.lemmas.Bool.{and_parts, not-true, cases_Bool, ltb-false}
use Rattle.std.proofs.lemmas.List.Quantifiers.{position-Some}
use Rattle.std.proofs.lemmas.Bool.Decides.{nat_tests}
use Rattle.line_text.specs.Reading.{first_word}

-- no byte of the list is x
abbrev pub lacks : ℕ → List ℕ → Bool
lacks x [] = true
lacks x (b ∷ bytes) = not (b == x) && lacks x bytes

first_word-other : (b : ℕ) (bytes : List ℕ) → (b == 32) ≡ false
    → first_word (b ∷ bytes) ≡ option_map (λ parts. (b ∷ parts.0, parts.1)) (first_word bytes)
first_word-other b bytes other = rw other refl

-- a word with a space behind it
pub first_word-space : (word rest : List ℕ) → lacks 32 word ≡ true → first_word (word ++ 32 ∷ rest) ≡ Some (word, rest)
first_word-space [] rest free = refl
first_word-space (b ∷ word) rest free =
    let tests = and_parts (not (b == 32)) (lacks 32 word) free in
    first_word-other b (word ++ 32 ∷ rest) (not-true (b == 32) tests.0)
    ∙ ap (option_map (λ parts. (b ∷ parts.0, parts.1))) (first_word-space word rest tests.1)

-- a word alone
pub first_word-alone : (word : List ℕ) → lacks 32 word ≡ true → first_word word ≡ None
first_word-alone [] free = refl
first_word-alone (b ∷ word) free =
    let tests = and_parts (not (b == 32)) (lacks 32 word) free in
    first_word-other b word (not-true (b == 32) tests.0)
    ∙ ap (option_map (λ parts. (b ∷ parts.0, parts.1))) (first_word-alone word tests.1)

none_inside : {A : Type 0} (b : Bool) (x : A) → cond b (Some x) None ≡ None → b ≡ false
none_inside true x is = cc
none_inside false x is = refl

-- what a map of an option gives, if anything
pub mapped : {A B : Type 0} (f : A → B) (o : Option A) (y : B) → option_map f o ≡ Some y
    → (x : A) × (o ≡ Some x) × (f x ≡ y)
mapped f None y is = cc
mapped f (Some x) y is = (x, refl, cc)

-- the two parts with the space between them are the text
pub parts_of_text : (text : List ℕ) (parts : List ℕ × List ℕ) → first_word text ≡ Some parts
    → text ≡ parts.0 ++ 32 ∷ parts.1
parts_of_text [] parts is = cc
parts_of_text (b ∷ bytes) parts is =
    elim (cases_Bool (b == 32)) [
      | inl space ↦
          let is_space : b ≡ 32 = grind (arith, nat_tests) in
          let same : Some ([], bytes) ≡ Some parts = rw space at is in
          let all : ([], bytes) ≡ parts = cc in
          ap (λ x. x ∷ bytes) is_space ∙ ap (λ (p : List ℕ × List ℕ). p.0 ++ 32 ∷ p.1) all
      | inr other ↦
          let inner = mapped (λ (p : List ℕ × List ℕ). (b ∷ p.0, p.1)) (first_word bytes) parts
          (sym (first_word-other b bytes other) ∙ is) in
          ap (λ rest. b ∷ rest) (parts_of_text bytes inner.0 inner.1)
          ∙ ap (λ (p : List ℕ × List ℕ). p.0 ++ 32 ∷ p.1) inner.2
    ]

-- the place of the first space splits the text
split_at : (text : List ℕ) (at : ℕ) → at < length text → (get_or text at 0 == 32) ≡ true
    → ((k : ℕ) → k < at → (get_or text k 0 == 32) ≡ false) → first_word text ≡ Some (take at text, drop (suc at) text)
split_at [] at within space before = absurd (omega arith)
split_at (b ∷ bytes) zero within space before = rw space refl
split_at (b ∷ bytes) (suc at) within space before =
    first_word-other b bytes (before 0 (omega arith))
    ∙ ap (option_map (λ parts. (b ∷ parts.0, parts.1)))
    (split_at bytes at (omega arith) space (λ k lower. before (suc k) (omega arith)))

pub first_word-at : (text : List ℕ) (at : ℕ) → position (λ b. b == 32) text ≡ Some at
    → first_word text ≡ Some (take at text, drop (suc at) text)
first_word-at text at is =
    let found = position-Some (λ b. b == 32) text at 0 is in
    split_at text at found.0 found.1 found.2

nowhere : (text : List ℕ) → length text ≤ position_or_len (λ b. b == 32) text → first_word text ≡ None
nowhere [] past = refl
nowhere (b ∷ bytes) past =
    elim (cases_Bool (b == 32)) [
      | inl space ↦ absurd (omega (arith, rw space at past))
      | inr other ↦ first_word-other b bytes other
          ∙ ap (option_map (λ parts. (b ∷ parts.0, parts.1))) (nowhere bytes (omega (arith, rw other at past)))
    ]

pub first_word-nowhere : (text : List ℕ) → position (λ b. b == 32) text ≡ None → first_word text ≡ None
first_word-nowhere text is =
    nowhere text (ltb-false (position_or_len (λ b. b == 32) text) (length text)
    (none_inside _ (position_or_len (λ b. b == 32) text) is))
