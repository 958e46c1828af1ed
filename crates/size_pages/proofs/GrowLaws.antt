-- The heads of lists that were not there are 0.
use Rattle.std.proofs.Common.{◌≡◌, ℕ, ◌-◌, ◌≤◌, inl, inr, List, ◌++◌, length, slice_index, take, refl, sym, ◌∙◌, ap, subst}
use Rattle.std.specs.Prelude.{replicate}
use Rattle.std.proofs.lemmas.List.{get_or_past, get_or_append_left, take_all, get_or-append_right, get_or-replicate, length-replicate}
use Rattle.std.proofs.lemmas.Bool.{cases_lt}

zero_padding : (k i : ℕ) → slice_index (replicate k 0) i ≡ 0
zero_padding k i = elim (cases_lt i k) [ inr a ↦ get_or_past (replicate k 0) i 0 (subst (λ (n : ℕ). n ≤ i) (sym (length-replicate k 0)) a) | inl b ↦ get_or-replicate k i 0 0 b ]

pub padded : (xs : List ℕ) (n k i : ℕ) → length xs ≤ n → slice_index (take n xs ++ replicate k 0) i ≡ slice_index xs i
padded xs n k i long =
    ap (λ (ys : List ℕ). slice_index (ys ++ replicate k 0) i) (take_all n xs long) ∙
    elim (cases_lt i (length xs)) [
      | inr a ↦ get_or-append_right xs (replicate k 0) (length xs) i 0 refl a ∙ zero_padding k (i - length xs) ∙ sym (get_or_past xs i 0 a)
      | inl b ↦ get_or_append_left xs (replicate k 0) 0 i b
    ]
