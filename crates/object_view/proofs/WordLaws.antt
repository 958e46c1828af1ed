-- Words read one by one, one word changed, and members of lists of places.
use Rattle.std.proofs.Common.{◌≡◌, ◌≢◌, ℕ, zero, suc, ◌+◌, ◌<◌, ◌≤◌, ◌∷◌, length, set, get_or, replicate, refl, ap, ap₂, ◌∙◌, arith}
use Rattle.std.proofs.lemmas.Bool.{ne_eqb, eq-eqb}
use Rattle.object_model.specs.ObjectWords.{words_from, updated}

pub updated-here : (w : ℕ → ℕ) (at x b : ℕ) → b ≡ at → updated w at x b ≡ x
updated-here w at x b e = rw (eq-eqb b at e) refl

pub updated-other : (w : ℕ → ℕ) (at x b : ℕ) → b ≢ at → updated w at x b ≡ w b
updated-other w at x b e = rw (ne_eqb b at e) refl

-- words that are the same wherever they are read
pub words_from-same : (v w : ℕ → ℕ) (p n : ℕ) → ((b : ℕ) → p ≤ b → b < p + n → v b ≡ w b)
    → words_from v p n ≡ words_from w p n
words_from-same v w p zero same = refl
words_from-same v w p (suc n) same =
    ap₂ (λ x xs. x ∷ xs) (same p (omega arith) (omega arith)) (words_from-same v w (p + 1) n (λ b l r. same b (omega arith) (omega arith)))

-- words that lie elsewhere
pub words_from-shift : (v w : ℕ → ℕ) (a b n : ℕ) → ((k : ℕ) → k < n → v (a + k) ≡ w (b + k))
    → words_from v a n ≡ words_from w b n
words_from-shift v w a b zero same = refl
words_from-shift v w a b (suc n) same =
    ap₂ (λ x xs. x ∷ xs) (ap v (omega arith) ∙ same 0 (omega arith) ∙ ap w (omega arith))
    (words_from-shift v w (a + 1) (b + 1) n (λ k l. ap v (omega arith) ∙ same (suc k) (omega arith) ∙ ap w (omega arith)))

-- one of the words is written
pub words_from-set : (w : ℕ → ℕ) (p i n x at : ℕ) → at ≡ p + i → i < n
    → words_from (updated w at x) p n ≡ set (words_from w p n) i x
words_from-set w p i zero x at is l = absurd (omega arith)
words_from-set w p zero (suc n) x at is l =
    ap₂ (λ y ys. y ∷ ys) (updated-here w at x p (omega arith)) (words_from-same (updated w at x) w (p + 1) n (λ b m r. updated-other w at x b (omega arith)))
words_from-set w p (suc i) (suc n) x at is l =
    ap₂ (λ y ys. y ∷ ys) (updated-other w at x p (omega arith)) (words_from-set w (p + 1) i n x at (omega arith) (omega arith))

pub length-words_from : (w : ℕ → ℕ) (p n : ℕ) → length (words_from w p n) ≡ n
length-words_from w p zero = refl
length-words_from w p (suc n) = ap suc (length-words_from w (p + 1) n)

pub get_or-words_from : (w : ℕ → ℕ) (p i n : ℕ) → i < n → get_or (words_from w p n) i 0 ≡ w (p + i)
get_or-words_from w p i zero l = absurd (omega arith)
get_or-words_from w p zero (suc n) l = ap w (omega arith)
get_or-words_from w p (suc i) (suc n) l = get_or-words_from w (p + 1) i n (omega arith) ∙ ap w (omega arith)

pub words_from-zeros : (w : ℕ → ℕ) (p n : ℕ) → ((k : ℕ) → k < n → w (p + k) ≡ 0) → words_from w p n ≡ replicate n 0
words_from-zeros w p zero z = refl
words_from-zeros w p (suc n) z =
    ap₂ (λ x xs. x ∷ xs) (ap w (omega arith) ∙ z 0 (omega arith)) (words_from-zeros w (p + 1) n (λ k l. ap w (omega arith) ∙ z (suc k) (omega arith)))

-- members of a list of places

-- members of a list with one more at its end
