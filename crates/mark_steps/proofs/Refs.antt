-- The references of an object as they are queued one by one.
use Rattle.std.proofs.Common.{◌≡◌, ℕ, zero, suc, ◌+◌, ◌≤◌, Bool, true, false, List, [], ◌∷◌, ◌++◌, filter, length, append-nil, append_assoc, refl, sym, ap, ◌∙◌, arith}
use Rattle.std.proofs.lemmas.List.Elements.{filter-append}
use Rattle.type_table.specs.declared.info.TypeInfo.{TypeInfo}
use Rattle.type_table.specs.Table.{Table}
use Rattle.object_model.specs.ObjectWords.{words_from, words_at, layout_at}
use Rattle.object_view.proofs.WordLaws.{length-words_from}
use Rattle.object_view.proofs.LayoutLaws.{laid_out}
use Rattle.mark_steps.specs.Visits.{is_outside, outside_refs}

words_from-suc : (w : ℕ → ℕ) (p n : ℕ) → words_from w p (suc n) ≡ words_from w p n ++ w (p + n) ∷ []
words_from-suc w p zero = let e : p ≡ p + 0 = omega arith in ap (λ k. w k ∷ []) e
words_from-suc w p (suc n) =
    let e : p + 1 + n ≡ p + suc n = omega arith in
    ap (λ xs. w p ∷ xs) (words_from-suc w (p + 1) n ∙ ap (λ k. words_from w (p + 1) n ++ w k ∷ []) e)

refs-more : (test : ℕ → Bool) (w : ℕ → ℕ) (p i : ℕ) → filter test (words_from w p (i + 1)) ≡ filter test (words_from w p i) ++ filter test (w (p + i) ∷ [])
refs-more test w p i =
    let e : i + 1 ≡ suc i = omega arith in
    ap (λ k. filter test (words_from w p k)) e ∙ (ap (filter test) (words_from-suc w p i) ∙ filter-append test (words_from w p i) (w (p + i) ∷ []))

-- one reference is queued, or passed over
pub refs-queued : (test : ℕ → Bool) (w : ℕ → ℕ) (p i x : ℕ) (first before now : List ℕ) → before ≡ first ++ filter test (words_from w p i) → x ≡ w (p + i) → test x ≡ true
    → now ≡ before ++ x ∷ [] → now ≡ first ++ filter test (words_from w p (i + 1))
refs-queued test w p i x first before now was is passes more =
    let one : filter test (w (p + i) ∷ []) ≡ x ∷ [] = ap (λ k. filter test (k ∷ [])) (sym is) ∙ rw passes refl in
    more ∙ (ap (λ xs. xs ++ x ∷ []) was ∙ (append_assoc first (filter test (words_from w p i)) (x ∷ [])
    ∙ ap (λ xs. first ++ xs) (ap (λ xs. filter test (words_from w p i) ++ xs) (sym one) ∙ sym (refs-more test w p i))))

pub refs-passed : (test : ℕ → Bool) (w : ℕ → ℕ) (p i x : ℕ) (first before : List ℕ) → before ≡ first ++ filter test (words_from w p i) → x ≡ w (p + i) → test x ≡ false
    → before ≡ first ++ filter test (words_from w p (i + 1))
refs-passed test w p i x first before was is passes =
    let none : filter test (w (p + i) ∷ []) ≡ [] = ap (λ k. filter test (k ∷ [])) (sym is) ∙ rw passes refl in
    was ∙ ap (λ xs. first ++ xs) (sym (refs-more test w p i ∙ (ap (λ xs. filter test (words_from w p i) ++ xs) none ∙ append-nil (filter test (words_from w p i)))))

filter-short : (test : ℕ → Bool) (xs : List ℕ) → length (filter test xs) ≤ length xs
filter-short test [] = omega arith
filter-short test (x ∷ xs) = go (test x) refl (filter-short test xs)
  where
    go : (b : Bool) → test x ≡ b → length (filter test xs) ≤ length xs → length (filter test (x ∷ xs)) ≤ length (x ∷ xs)
    go true e rest = rw e (omega arith)
    go false e rest = rw e (omega arith)

-- an object has fewer references than words
pub refs-few : (types : Table TypeInfo) (nursery : ℕ) (w : ℕ → ℕ) (p : ℕ) → length (outside_refs types nursery w p) + 2 ≤ words_at types w p
refs-few types nursery w p =
    let laid = laid_out types w p in
    let few = filter-short (is_outside nursery) (words_from w (layout_at types w p).ref_start (layout_at types w p).ref_count) in
    let all = length-words_from w (layout_at types w p).ref_start (layout_at types w p).ref_count in
    omega (arith, few, all, laid.begins, laid.ordered, laid.pointers, laid.refs)
