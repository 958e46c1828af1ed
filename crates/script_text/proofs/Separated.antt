-- The words of a line, by its first space.
use Rattle.std.proofs.Common.{◌≡◌, ℕ, ◌+◌, ◌<◌, suc, Bool, true, false, List, [], ◌∷◌, ◌++◌, length, take, drop, get_or, Err, refl, sym, ap, ◌∙◌, inl, inr, arith, take-append-drop, drop-cons, add-one}
use Rattle.std.specs.Prelude.{not, ◌&&◌, ◌==◌, bytes_eq}
use Rattle.std.proofs.lemmas.Bool.{and_parts, not-true, and_from, cases_Bool}
use Rattle.text_model.specs.declared.item.BadLine.TheVariants.{Syntax}
use Rattle.text_model.specs.Lines.{in_front}
use Rattle.text_model.specs.declared.command.Command.TheVariants.{NewArray}
use Rattle.text_model.specs.Numbers.{words_of, no_word, one_number, ◌>>=◌}
use Rattle.text_model.specs.CommandGrammar.{in_range, new_tail}

-- no byte is a space
abbrev pub is_word : List ℕ → Bool
is_word [] = true
is_word (b ∷ bytes) = not (b == 32) && is_word bytes

pub is_word-push : (word : List ℕ) (b : ℕ) → is_word word ≡ true → (b == 32) ≡ false → is_word (word ++ b ∷ []) ≡ true
is_word-push [] b h e = rw e refl
is_word-push (x ∷ word) b h e =
    let parts = and_parts _ (is_word word) h in
    and_from _ _ parts.0 (is_word-push word b parts.1 e)

pub words_of-other : (b : ℕ) (bytes : List ℕ) → (b == 32) ≡ false → words_of (b ∷ bytes) ≡ in_front b (words_of bytes)
words_of-other b bytes e = rw e refl

-- a word, a space, and the words behind
pub words_of-word : (word rest : List ℕ) → is_word word ≡ true → words_of (word ++ 32 ∷ rest) ≡ word ∷ words_of rest
words_of-word [] rest h = refl
words_of-word (b ∷ word) rest h =
    let parts = and_parts _ (is_word word) h in
    words_of-other b (word ++ 32 ∷ rest) (not-true (b == 32) parts.0) ∙ ap (in_front b) (words_of-word word rest parts.1)

-- one word alone
pub words_of-last : (word : List ℕ) → is_word word ≡ true → words_of word ≡ word ∷ []
words_of-last [] h = refl
words_of-last (b ∷ word) h =
    let parts = and_parts _ (is_word word) h in
    words_of-other b word (not-true (b == 32) parts.0) ∙ ap (in_front b) (words_of-last word parts.1)

-- there is always a first word
pub words_of-some : (bytes : List ℕ) → (word : List ℕ) × (words : List (List ℕ)) × (words_of bytes ≡ word ∷ words)
words_of-some [] = ([], [], refl)
words_of-some (b ∷ bytes) =
    elim (cases_Bool (b == 32)) [
      | inl e ↦ ([], words_of bytes, rw e refl)
      | inr e ↦
          let some = words_of-some bytes in
          (b ∷ some.0, some.1, words_of-other b bytes e ∙ ap (in_front b) some.2)
    ]

pub no_word_of_text : (bytes : List ℕ) → no_word (words_of bytes) ≡ Err Syntax
no_word_of_text bytes = let some = words_of-some bytes in ap no_word some.2

-- a word behind the type id is the length of an array
pub new_tail_of_text : (root type_id : ℕ) (bytes : List ℕ)
    → new_tail root type_id (words_of bytes) ≡ (one_number (words_of bytes) >>= (λ len. in_range (NewArray root type_id len)))
new_tail_of_text root type_id bytes = let some = words_of-some bytes in rw some.2 refl

-- words of other first bytes are not the same
pub other_front : (word keyword : List ℕ) → 0 < length word → 0 < length keyword → (get_or word 0 0 == get_or keyword 0 0) ≡ false
    → false ≡ bytes_eq word keyword
other_front [] keyword some more other = absurd (omega arith)
other_front (b ∷ bytes) [] some more other = absurd (omega arith)
other_front (b ∷ bytes) (k ∷ keys) some more other = rw other refl

-- the text around its first space
pub split_at_space : (text : List ℕ) (at : ℕ) → at < length text → is_word (take at text) ≡ true → get_or text at 0 ≡ 32
    → words_of text ≡ take at text ∷ words_of (drop (at + 1) text)
split_at_space text at within word space =
    ap words_of (sym (take-append-drop at text) ∙ ap (λ rest. take at text ++ rest) (drop-cons text at 0 within ∙ ap (λ b. b ∷ drop (suc at) text) space))
    ∙ words_of-word (take at text) (drop (suc at) text) word
    ∙ ap (λ n. take at text ∷ words_of (drop n text)) (sym (add-one at))
