-- Words and the line in which one space stands between two of them.
use Rattle.std.proofs.Common.{◌≡◌, ℕ, Bool, true, false, List, [], ◌∷◌, refl, sym, ap, ◌∙◌, inl, inr}
use Rattle.std.specs.Prelude.{◌&&◌, ◌==◌, not}
use Rattle.std.proofs.lemmas.Bool.{and_parts, and_from, not-true, eqb-true, cases_Bool}
use Rattle.text_model.specs.Lines.{in_front}
use Rattle.text_model.specs.Numbers.{words_of}
use Rattle.text_model.specs.Grammar.{item_of, form_of}
use Rattle.text_model.specs.ItemText.{joined}
use Rattle.script_text.proofs.Separated.{is_word, words_of-word, words_of-last, words_of-other, words_of-some}

abbrev pub are_words : List (List ℕ) → Bool
are_words [] = true
are_words (word ∷ words) = is_word word && are_words words

-- the words of the line are the words
pub words_of-joined : (word : List ℕ) (words : List (List ℕ)) → are_words (word ∷ words) ≡ true
    → words_of (joined (word ∷ words)) ≡ word ∷ words
words_of-joined word [] h = words_of-last word (and_parts (is_word word) true h).0
words_of-joined word (next ∷ words) h =
    let parts = and_parts (is_word word) (are_words (next ∷ words)) h in
    words_of-word word (joined (next ∷ words)) parts.0 ∙ ap (λ ws. word ∷ ws) (words_of-joined next words parts.1)

joined-first : (b : ℕ) (word : List ℕ) (words : List (List ℕ)) → joined ((b ∷ word) ∷ words) ≡ b ∷ joined (word ∷ words)
joined-first b word [] = refl
joined-first b word (next ∷ words) = refl

-- a line is its words, joined
pub joined-words_of : (line : List ℕ) → joined (words_of line) ≡ line
joined-words_of [] = refl
joined-words_of (b ∷ bytes) =
    let some = words_of-some bytes in
    let rest : joined (some.0 ∷ some.1) ≡ bytes = ap joined (sym some.2) ∙ joined-words_of bytes in
    elim (cases_Bool (b == 32)) [
      | inl e ↦ rw (e, some.2) (ap (λ (l : List ℕ). 32 ∷ l) rest ∙ ap (λ c. c ∷ bytes) (sym (eqb-true b 32 e)))
      | inr e ↦ ap joined (words_of-other b bytes e ∙ ap (in_front b) some.2) ∙ joined-first b some.0 some.1 ∙ ap (λ (l : List ℕ). b ∷ l) rest
    ]

-- a word that a line which is not blank may begin with
abbrev pub is_keyword : List ℕ → Bool
is_keyword [] = false
is_keyword (b ∷ word) = not (b == 35) && is_word (b ∷ word)

pub item_of-joined : (word : List ℕ) (words : List (List ℕ)) → is_keyword word ≡ true → are_words words ≡ true
    → item_of (joined (word ∷ words)) ≡ form_of (word ∷ words)
unfolding item_of
item_of-joined [] words h are = cc
item_of-joined (b ∷ word) words h are =
    let parts = and_parts (not (b == 35)) (is_word (b ∷ word)) h in
    let all : are_words ((b ∷ word) ∷ words) ≡ true = and_from (is_word (b ∷ word)) (are_words words) parts.1 are in
    let first = joined-first b word words in
    ap item_of first ∙ rw (not-true (b == 35) parts.0) (ap form_of (ap words_of (sym first) ∙ words_of-joined (b ∷ word) words all))
