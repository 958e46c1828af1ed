-- Where a pinned object stands in the list of pins, and what a pin more or less makes of the list.
use Rattle.std.proofs.Common.{◌≡◌, ◌≢◌, ap₂, ℕ, zero, suc, ◌+◌, ◌-◌, ◌<◌, ◌⊎◌, Bool, true, false, cond, not, nat_lt, List, [], ◌∷◌, ◌++◌, length, slice_index_or, slice_set, remove, position, Some, None, refl, sym, ap, ◌∙◌, subst, inl, inr, arith}
use Rattle.std.specs.Prelude.{◌==◌, if◌then◌else◌}
use Rattle.std.specs.List.{position_or_len}
use Rattle.std.proofs.lemmas.Bool.Decides.{eqb_tells, nat_tests}
use Rattle.store_model.specs.Identity.{pin_count, pinned_more, pinned_less, with_count}

-- the pin of the object at a place stands at an index
pub record IsPinAt (pins : List (ℕ × ℕ)) (place i : ℕ) : Type 0 where
  pub inside : i < length pins
  pub key : (d : ℕ × ℕ) → (slice_index_or pins i d).0 ≡ place
  pub counted : (d : ℕ × ℕ) → (slice_index_or pins i d).1 ≡ pin_count pins place
  pub more : slice_set pins i (place, pin_count pins place + 1) ≡ pinned_more pins place
  pub less : 0 < pin_count pins place - 1 → slice_set pins i (place, pin_count pins place - 1) ≡ pinned_less pins place
  pub gone : pin_count pins place - 1 ≡ 0 → remove pins i ≡ pinned_less pins place

-- the object at a place is not pinned
pub record IsUnpinned (pins : List (ℕ × ℕ)) (place : ℕ) : Type 0 where
  pub counted : pin_count pins place ≡ 0
  pub more : pinned_more pins place ≡ pins ++ (place, 1) ∷ []
  pub less : pinned_less pins place ≡ pins

some-count : (k n : ℕ) (pins : List (ℕ × ℕ)) → 0 < n → (k, n) ∷ pins ≡ with_count k n pins
some-count k zero pins l = absurd (omega (arith, l))
some-count k (suc n) pins l = refl

no-count : (k n : ℕ) (pins : List (ℕ × ℕ)) → n ≡ 0 → pins ≡ with_count k n pins
no-count k n pins e = rw e refl

at-head : (e : ℕ × ℕ) (pins : List (ℕ × ℕ)) (place : ℕ) → (e.0 == place) ≡ true → e.0 ≡ place → IsPinAt (e ∷ pins) place 0
at-head e pins place t is = record {
  inside = omega arith;
  key = λ d. is;
  counted = λ d. sym (ap (λ (b : Bool). if b then e.1 else pin_count pins place) t);
  more = rw t (ap (λ (k : ℕ). (k, e.1 + 1) ∷ pins) (sym is));
  less = rw t (λ l. ap (λ (k : ℕ). (k, e.1 - 1) ∷ pins) (sym is) ∙ some-count e.0 (e.1 - 1) pins l);
  gone = rw t (λ z. no-count e.0 (e.1 - 1) pins z);
}

at-tail : (e : ℕ × ℕ) (pins : List (ℕ × ℕ)) (place i : ℕ) → (e.0 == place) ≡ false → IsPinAt pins place i → IsPinAt (e ∷ pins) place (suc i)
at-tail e pins place i f h = record {
  inside = (let l = h.inside in omega (arith, l));
  key = λ d. h.key d;
  counted = λ d. h.counted d ∙ sym (ap (λ (b : Bool). if b then e.1 else pin_count pins place) f);
  more = rw f (ap (λ (es : List (ℕ × ℕ)). e ∷ es) h.more);
  less = rw f (λ l. ap (λ (es : List (ℕ × ℕ)). e ∷ es) (h.less l));
  gone = rw f (λ z. ap (λ (es : List (ℕ × ℕ)). e ∷ es) (h.gone z));
}

unpinned-tail : (e : ℕ × ℕ) (pins : List (ℕ × ℕ)) (place : ℕ) → (e.0 == place) ≡ false → IsUnpinned pins place → IsUnpinned (e ∷ pins) place
unpinned-tail e pins place f h = record {
  counted = rw f h.counted;
  more = rw f (ap (λ (es : List (ℕ × ℕ)). e ∷ es) h.more);
  less = rw f (ap (λ (es : List (ℕ × ℕ)). e ∷ es) h.less);
}

abbrev index : List (ℕ × ℕ) → ℕ → ℕ
index pins place = position_or_len (λ pin. pin.0 == place) pins

abbrev Found : List (ℕ × ℕ) → ℕ → ℕ → Type 0
Found pins place i = ((i < length pins) × IsPinAt pins place i) ⊎ ((i ≡ length pins) × IsUnpinned pins place)

found-tail : (e : ℕ × ℕ) (pins : List (ℕ × ℕ)) (place i : ℕ) → (e.0 == place) ≡ false → Found pins place i → Found (e ∷ pins) place (suc i)
found-tail e pins place i f (inl h) = inl ((let l = h.0 in omega (arith, l)), at-tail e pins place i f h.1)
found-tail e pins place i f (inr h) = inr (ap suc h.0, unpinned-tail e pins place f h.1)

one-more : (n : ℕ) → 1 + n ≡ suc n
one-more n = omega arith

index-found : (pins : List (ℕ × ℕ)) (place : ℕ) → Found pins place (index pins place)
index-found [] place = inr (refl, record { counted = refl; more = refl; less = refl })
index-found (e ∷ pins) place = elim (eqb_tells e.0 place) [
  | inl same ↦
      (let zeroth : index (e ∷ pins) place ≡ 0 = ap (λ (b : Bool). cond (not b) (1 + index pins place) 0) same.0 in
      subst (Found (e ∷ pins) place) (sym zeroth) (inl (omega arith, at-head e pins place same.0 same.1)))
  | inr differ ↦
      (let next : index (e ∷ pins) place ≡ suc (index pins place) = ap (λ (b : Bool). cond (not b) (1 + index pins place) 0) differ.0 ∙ one-more (index pins place) in
      subst (Found (e ∷ pins) place) (sym next) (found-tail e pins place (index pins place) differ.0 (index-found pins place)))
]

-- what is found
pub pin_at : (pins : List (ℕ × ℕ)) (place i : ℕ) → position (λ pin. pin.0 == place) pins ≡ Some i → IsPinAt pins place i
pin_at pins place i e = elim (index-found pins place) [
  | inl h ↦
      (let yes : nat_lt (index pins place) (length pins) ≡ true = (let l = h.0 in grind (arith, nat_tests)) in
      let some : Some (index pins place) ≡ Some i = sym (ap (λ (b : Bool). cond b (Some (index pins place)) None) yes) ∙ e in
      let is : index pins place ≡ i = cc in subst (IsPinAt pins place) is h.1)
  | inr h ↦
      (let no_index : nat_lt (index pins place) (length pins) ≡ false = (let l = h.0 in grind (arith, nat_tests)) in
      let none : None ≡ Some i = sym (ap (λ (b : Bool). cond b (Some (index pins place)) None) no_index) ∙ e in let no : ⊥ = cc in absurd no)
]

pub not_pinned : (pins : List (ℕ × ℕ)) (place : ℕ) → position (λ pin. pin.0 == place) pins ≡ None → IsUnpinned pins place
not_pinned pins place e = elim (index-found pins place) [
  | inl h ↦
      (let yes : nat_lt (index pins place) (length pins) ≡ true = (let l = h.0 in grind (arith, nat_tests)) in
      let some : Some (index pins place) ≡ None = sym (ap (λ (b : Bool). cond b (Some (index pins place)) None) yes) ∙ e in let no : ⊥ = cc in absurd no)
  | inr h ↦ h.1
]

-- one more is counted where it stands
pub more-at : (pins : List (ℕ × ℕ)) (place i : ℕ) (e : ℕ × ℕ) → IsPinAt pins place i → e ≡ slice_index_or pins i e → slice_set pins i (e.0, e.1 + 1) ≡ pinned_more pins place
more-at pins place i e h is =
    let key : e.0 ≡ place = ap (λ (x : ℕ × ℕ). x.0) is ∙ h.key e in
    let counted : e.1 ≡ pin_count pins place = ap (λ (x : ℕ × ℕ). x.1) is ∙ h.counted e in
    ap₂ (λ (k n : ℕ). slice_set pins i (k, n + 1)) key counted ∙ h.more

-- and one less
pub less-at : (pins : List (ℕ × ℕ)) (place i key left : ℕ) → IsPinAt pins place i → key ≡ place → left ≡ pin_count pins place - 1 → (left ≡ 0 → ⊥)
    → slice_set pins i (key, left) ≡ pinned_less pins place
less-at pins place i key left h is counted some =
    ap₂ (λ (k n : ℕ). slice_set pins i (k, n)) is counted ∙ h.less (let more : left ≢ 0 = some in omega (arith, counted, more))

-- what was read where it stands
pub read-key : (pins : List (ℕ × ℕ)) (place i : ℕ) (e : ℕ × ℕ) → IsPinAt pins place i → e ≡ slice_index_or pins i e → e.0 ≡ place
read-key pins place i e h is = ap (λ (x : ℕ × ℕ). x.0) is ∙ h.key e

pub read-count : (pins : List (ℕ × ℕ)) (place i : ℕ) (e : ℕ × ℕ) → IsPinAt pins place i → e ≡ slice_index_or pins i e → e.1 ≡ pin_count pins place
read-count pins place i e h is = ap (λ (x : ℕ × ℕ). x.1) is ∙ h.counted e
