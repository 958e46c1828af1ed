-- A run is written from its last word on.
use Rattle.std.proofs.Common.{◌≡◌, ◌≢◌, ℕ, zero, suc, ◌+◌, ◌-◌, inl, inr, List, [], ◌∷◌, ◌++◌, length, refl, sym, ap, ◌∙◌, arith}
use Rattle.std.proofs.lemmas.Bool.{cases_Bool}
use Rattle.std.proofs.lemmas.List.{set_comm}
use Rattle.heap_space.specs.Places.{Placed, covers, word_at, written, with_word, run_at, with_run}
use Rattle.heap_space.proofs.Blocks.{with_run-nil, with_run-step, covers-inside, covers-written}

-- two words at different places can be written in either order
commute_in : (a x b y : ℕ) (p : Placed) → a ≢ b → written a x (written b y p) ≡ written b y (written a x p)
commute_in a x b y p ne =
    let bare = set_comm p.words (b - p.base) (a - p.base) y x in
    let at = covers-inside p a in let bt = covers-inside p b in
    elim (cases_Bool (covers p a)) [
      | inl ca ↦ elim (cases_Bool (covers p b)) [
        | inl cb ↦ grind (arith, covers-written b y a p, covers-written a x b p, bare (λ e. omega (arith, ne, e, at ca, bt cb)))
        | inr cb ↦ grind (arith, covers-written b y a p, covers-written a x b p)
      ]
      | inr ca ↦ grind (arith, covers-written b y a p, covers-written a x b p)
    ]

commute : (ps : List Placed) (a x b y : ℕ) → a ≢ b → with_word (with_word ps b y) a x ≡ with_word (with_word ps a x) b y
commute [] a x b y ne = refl
commute (p ∷ ps) a x b y ne = grind (arith, commute_in a x b y p ne, commute ps a x b y ne)

-- the last word of a run can be written before the others
pub run-last : (ps : List Placed) (a x : ℕ) (xs : List ℕ) → with_run (with_word ps (a + length xs) x) a xs ≡ with_run ps a (xs ++ x ∷ [])
run-last ps a x [] =
    ap (λ (k : ℕ). with_run (with_word ps k x) a []) (let e : a + 0 ≡ a = omega arith in e) ∙ with_run-nil (with_word ps a x) a
    ∙ sym (with_run-nil (with_word ps a x) (a + 1)) ∙ with_run-step ps a x []
run-last ps a x (y ∷ ys) =
    let last : a + suc (length ys) ≡ (a + 1) + length ys = omega arith in
    sym (with_run-step (with_word ps (a + suc (length ys)) x) a y ys)
    ∙ ap (λ (qs : List Placed). with_run qs (a + 1) ys) (commute ps a y (a + suc (length ys)) x (λ e. omega (arith, e)))
    ∙ ap (λ (k : ℕ). with_run (with_word (with_word ps a y) k x) (a + 1) ys) last
    ∙ run-last (with_word ps a y) (a + 1) x ys ∙ with_run-step ps a y (ys ++ x ∷ [])

-- the last word of a run
pub run_at-last : (ps : List Placed) (a n : ℕ) → run_at ps a (suc n) ≡ run_at ps a n ++ word_at ps (a + n) ∷ []
run_at-last ps a zero = ap (λ (k : ℕ). word_at ps k ∷ []) (let e : a ≡ a + 0 = omega arith in e)
run_at-last ps a (suc n) =
    ap (λ (ws : List ℕ). word_at ps a ∷ ws) (run_at-last ps (a + 1) n
    ∙ ap (λ (k : ℕ). run_at ps (a + 1) n ++ word_at ps k ∷ []) (let e : (a + 1) + n ≡ a + suc n = omega arith in e))
