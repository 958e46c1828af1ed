-- The first word of an object is read, and written again.
use Rattle.std.proofs.Common.{◌≡◌, ℕ, ◌-◌, ◌<◌, false, List, [], ◌∷◌, refl, ap, ap₂, ◌∙◌, inl, inr, arith}
use Rattle.std.proofs.lemmas.Bool.{cases_Bool}
use Rattle.std.proofs.lemmas.Bool.Decides.{nat_tests}
use Rattle.std.proofs.lemmas.List.{set-get_or}
use Rattle.heap_space.specs.Places.{Placed, covers, end_of, has, word_at, written, with_word, RiseTo}
use Rattle.heap_space.proofs.Rising.{has-below}
use Rattle.remember_cards.proofs.EntryLaws.{not-first, not-second}

-- a word is written where no block has its place
unwritten : (ps : List Placed) (a v : ℕ) → has ps a ≡ false → with_word ps a v ≡ ps
unwritten [] a v out = refl
unwritten (p ∷ ps) a v out =
    let here : covers p a ≡ false = not-first (covers p a) (has ps a) out in
    let later : has ps a ≡ false = not-second (covers p a) (has ps a) out in
    ap₂ (λ (q : Placed) (qs : List Placed). q ∷ qs) (kept p a v here) (unwritten ps a v later)
  where
    kept : (p : Placed) (a v : ℕ) → covers p a ≡ false → written a v p ≡ p
    kept p a v e = rw e refl

-- the word that a place has is written there again
pub with_word-same : (from end a : ℕ) (ps : List Placed) → RiseTo from ps end → with_word ps a (word_at ps a) ≡ ps
with_word-same from end a [] r = refl
with_word-same from end a (p ∷ ps) r = elim (cases_Bool (covers p a)) [
  | inl is ↦
      let below : a < end_of p = grind (arith, nat_tests) in
      let here : written a (word_at (p ∷ ps) a) p ≡ p = rw is (ap (λ (ws : List ℕ). record p { words = ws }) (set-get_or p.words (a - p.base) 0)) in
      ap₂ (λ (q : Placed) (qs : List Placed). q ∷ qs) here (unwritten ps a (word_at (p ∷ ps) a) (has-below (end_of p) end a ps r.1 below))
  | inr isnt ↦
      let word : word_at (p ∷ ps) a ≡ word_at ps a = rw isnt refl in
      let here : written a (word_at (p ∷ ps) a) p ≡ p = rw isnt refl in
      ap₂ (λ (q : Placed) (qs : List Placed). q ∷ qs) here (ap (with_word ps a) word ∙ with_word-same (end_of p) end a ps r.1)
]
