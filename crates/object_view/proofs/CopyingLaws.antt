-- What holds of words while a run of them is copied.
use Rattle.std.proofs.Common.{◌≡◌, ℕ, zero, suc, ◌+◌, ◌<◌, ◌≤◌, true, List, [], ◌∷◌, ◌++◌, length, get_or, refl, sym, ap, ◌∙◌, subst, arith}
use Rattle.heap_space.specs.Places.{Placed, word_at, with_word, run_at, with_run, lies_in_one}
use Rattle.heap_space.specs.Memory.{Memory}
use Rattle.heap_space.proofs.Blocks.{with_run-nil, with_run-step, word_at-elsewhere, length-run_at, get_or-run_at}
use Rattle.heap_space.proofs.LastWords.{run-last, run_at-last}
use Rattle.object_view.proofs.InitLaws.{lies-part}
use Rattle.object_view.specs.declared.fields.ObjView.{ObjView}
use Rattle.object_view.specs.Views.{HasView}

-- references of an object lie together
pub refs-lie : (m : Memory) (v : ObjView) (p i n : ℕ) → HasView m v p → i + n ≤ v.ref_count → lies_in_one m.blocks (v.ref_start + i) n ≡ true
refs-lie m v p i n h l =
    lies-part m.blocks p v.words (v.ref_start + i) n h.whole (omega (arith, h.begins, h.ordered)) (omega (arith, h.ends, l))

-- What holds of the words before a run, and stays with each word of it that is written, the first one first, holds of the words with the run.
pub run-by_words : (P : ℕ → List Placed → Type 0) (ps : List Placed) (a : ℕ) (xs : List ℕ) → P 0 ps
    → ((k : ℕ) (qs : List Placed) → k < length xs → P k qs → P (suc k) (with_word qs (a + k) (get_or xs k 0))) → P (length xs) (with_run ps a xs)
run-by_words P ps a [] none more = subst (P 0) (sym (with_run-nil ps a)) none
run-by_words P ps a (x ∷ xs) none more =
    let start : a + 0 ≡ a = omega arith in
    let first : P 1 (with_word ps a x) = subst (λ (b : ℕ). P 1 (with_word ps b x)) start (more 0 ps (omega arith) none) in
    let Q : ℕ → List Placed → Type 0 = λ k qs. P (suc k) qs in
    subst (P (suc (length xs))) (with_run-step ps a x xs)
    (run-by_words Q (with_word ps a x) (a + 1) xs first (λ k qs l h.
    subst (λ (b : ℕ). P (suc (suc k)) (with_word qs b (get_or xs k 0))) (let e : a + suc k ≡ (a + 1) + k = omega arith in e) (more (suc k) qs (omega (arith, l)) h)))

-- So it does where each word is read from the words as they are then, and the places written are not behind those read.
pub run-on : (P : ℕ → List Placed → Type 0) (ps : List Placed) (source target n : ℕ) → target ≤ source → P 0 ps
    → ((k : ℕ) (qs : List Placed) → k < n → P k qs → P (suc k) (with_word qs (target + k) (word_at qs (source + k))))
    → P n (with_run ps target (run_at ps source n))
run-on P ps source target n order none more =
    let xs : List ℕ = run_at ps source n in
    let size : length xs ≡ n = length-run_at ps source n in
    let Q : ℕ → List Placed → Type 0 = λ k qs. P k qs × ((j : ℕ) → k ≤ j → word_at qs (source + j) ≡ word_at ps (source + j)) in
    let all : Q (length xs) (with_run ps target xs) = run-by_words Q ps target xs (none, λ j l. refl) (λ k qs l h.
    let below : k < n = omega (arith, l, size) in
    let word : word_at qs (source + k) ≡ get_or xs k 0 = h.1 k (omega arith) ∙ sym (get_or-run_at ps source n k below) in (
      subst (λ (x : ℕ). P (suc k) (with_word qs (target + k) x)) word (more k qs below h.0),
      λ j m. word_at-elsewhere qs (target + k) (get_or xs k 0) (source + j) (λ e. omega (arith, e, m, order)) ∙ h.1 j (omega (arith, m)),
    )) in
    subst (λ (k : ℕ). P k (with_run ps target xs)) size all.0

-- And where they are not before those read, with the last one first.
pub run-back : (P : ℕ → List Placed → Type 0) (ps : List Placed) (source target n : ℕ) → source ≤ target → P n ps
    → ((k : ℕ) (qs : List Placed) → k < n → P (suc k) qs → P k (with_word qs (target + k) (word_at qs (source + k))))
    → P 0 (with_run ps target (run_at ps source n))
run-back P ps source target n order none more = go n ps (omega arith) none (λ j l. refl) where
  go : (m : ℕ) (qs : List Placed) → m ≤ n → P m qs → ((j : ℕ) → j < m → word_at qs (source + j) ≡ word_at ps (source + j))
      → P 0 (with_run qs target (run_at ps source m))
  go zero qs l h same = subst (P 0) (sym (with_run-nil qs target)) h
  go (suc m) qs l h same =
      let x : ℕ = word_at qs (source + m) in
      let first : List ℕ = run_at ps source m in
      let size : m ≡ length first = sym (length-run_at ps source m) in
      let later : P 0 (with_run (with_word qs (target + m) x) target first) = go m (with_word qs (target + m) x) (omega (arith, l)) (more m qs (omega (arith, l)) h)
      (λ j k. word_at-elsewhere qs (target + m) x (source + j) (λ e. omega (arith, e, k, order)) ∙ same j (omega (arith, k))) in
      subst (P 0) (ap (λ (k : ℕ). with_run (with_word qs (target + k) x) target first) size ∙ run-last qs target x first
      ∙ ap (λ (y : ℕ). with_run qs target (first ++ y ∷ [])) (same m (omega arith))
      ∙ ap (with_run qs target) (sym (run_at-last ps source m))) later
