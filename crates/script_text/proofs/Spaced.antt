-- Words with a space before each.
use Rattle.std.proofs.Common.{◌≡◌, ℕ, ◌+◌, ◌<◌, List, [], ◌∷◌, ◌++◌, length, take, get_or, sym, ap, ◌∙◌, append_assoc, append-nil}
use Rattle.std.specs.Prelude.{decimal, Result, Ok, Err, OnOk, OnErr, is_ok, if◌then◌else◌}
use Rattle.std.proofs.lemmas.List.{take_more}
use Rattle.text_model.specs.ItemText.{joined, decimals}
use Rattle.script_text.specs.Printing.{spaced, Extends}

pub joined-spaced : (first : List ℕ) (words : List (List ℕ)) → joined (first ∷ words) ≡ first ++ spaced words
joined-spaced first [] = sym (append-nil first)
joined-spaced first (word ∷ words) = ap (λ (l : List ℕ). first ++ 32 ∷ l) (joined-spaced word words)

spaced-push : (numbers : List ℕ) (n : ℕ) → spaced (decimals (numbers ++ n ∷ [])) ≡ spaced (decimals numbers) ++ 32 ∷ decimal n
spaced-push [] n = ap (λ (l : List ℕ). 32 ∷ l) (append-nil (decimal n))
spaced-push (first ∷ numbers) n =
    ap (λ (l : List ℕ). 32 ∷ (decimal first ++ l)) (spaced-push numbers n)
    ∙ ap (λ (l : List ℕ). 32 ∷ l) (sym (append_assoc (decimal first) (spaced (decimals numbers)) (32 ∷ decimal n)))

-- one number more was printed, behind a space
pub spaced_more : (old out more new numbers : List ℕ) (i : ℕ) → i < length numbers → out ≡ old ++ spaced (decimals (take i numbers))
    → more ≡ out ++ 32 ∷ [] → new ≡ more ++ decimal (get_or numbers i 0) → new ≡ old ++ spaced (decimals (take (i + 1) numbers))
spaced_more old out more new numbers i within e space is =
    let n = get_or numbers i 0 in
    let taken : spaced (decimals (take (i + 1) numbers)) ≡ spaced (decimals (take i numbers)) ++ 32 ∷ decimal n =
    ap (λ ns. spaced (decimals ns)) (take_more numbers i 0 within) ∙ spaced-push (take i numbers) n in
    is ∙ rw (space, taken, e) (simp append_assoc)

-- what stood at the front before more was appended still stands there
pub extends-more : (old more new : List ℕ) → Extends (old ++ more) new → Extends old new
extends-more old more new h = record { rest = more ++ h.rest; is = h.is ∙ append_assoc old more h.rest }

-- where memory was wanting, what was in the buffer stands at its front
pub kept : {T E : Type 0} (result : Result T E) (old new rest : List ℕ) → new ≡ old ++ rest → OnErr result (Extends old new)
kept (Ok done) old new rest is = tt
kept (Err failed) old new rest is = record { rest = rest; is = is }

-- behind the first word and the numbers LF was printed, if there was memory for it
pub line_ended : {E : Type 0} (result : Result (Unit {0}) E) (old first more out new : List ℕ) (numbers : List ℕ)
    → more ≡ old ++ first → out ≡ more ++ spaced (decimals numbers) → new ≡ (if is_ok result then out ++ 10 ∷ [] else out)
    → OnOk result (new ≡ old ++ (joined (first ∷ decimals numbers) ++ 10 ∷ []))
line_ended (Ok done) old first more out new numbers begun all is = is ∙ rw (joined-spaced first (decimals numbers), all, begun) (simp append_assoc)
line_ended (Err failed) old first more out new numbers begun all is = tt
