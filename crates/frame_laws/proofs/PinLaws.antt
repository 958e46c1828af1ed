-- Pins with counts: an object that is pinned n times needs n unpins.
use Rattle.std.proofs.Common.{◌≡◌, ℕ, zero, suc, ◌-◌, true, false, IsTrue, List, [], ◌∷◌, refl, ap, inl, inr}
use Rattle.std.specs.Prelude.{◌==◌}
use Rattle.std.proofs.lemmas.Bool.{eq-eqb, ne_eqb}
use Rattle.std.proofs.lemmas.Bool.Decides.{eqb_tells}
use Rattle.object_model.proofs.Members.{is_in-head, is_in-tail}
use Rattle.object_model.specs.Sets.{is_in}
use Rattle.store_model.specs.Identity.{pinned_more, pinned_less, with_count}
use Rattle.parts_model.specs.Lists.{named_entries}
use Rattle.store_model.proofs.PinLaws.{keys}

-- pins under other names
pub named-more : (name : ℕ → ℕ) (pins : List (ℕ × ℕ)) (p : ℕ) → ((q : ℕ) → IsTrue (is_in q (keys pins)) → name q ≡ name p → q ≡ p)
    → named_entries name (pinned_more pins p) ≡ pinned_more (named_entries name pins) (name p)
named-more name [] p one = refl
named-more name (e ∷ pins) p one = elim (eqb_tells e.0 p) [
  | inl same ↦ (let named : (name e.0 == name p) ≡ true = eq-eqb (name e.0) (name p) (ap name same.1) in rw (same.0, named) refl)
  | inr differ ↦
      (let named : (name e.0 == name p) ≡ false = ne_eqb (name e.0) (name p) (λ z. differ.1 (one e.0 (is_in-head e.0 (keys pins)) z)) in
      rw (differ.0, named) (ap (λ (es : List (ℕ × ℕ)). (name e.0, e.1) ∷ es) (named-more name pins p (λ q t z. one q (is_in-tail q e.0 (keys pins) t) z))))
]

pub named-less : (name : ℕ → ℕ) (pins : List (ℕ × ℕ)) (p : ℕ) → ((q : ℕ) → IsTrue (is_in q (keys pins)) → name q ≡ name p → q ≡ p)
    → named_entries name (pinned_less pins p) ≡ pinned_less (named_entries name pins) (name p)
named-less name [] p one = refl
named-less name (e ∷ pins) p one = elim (eqb_tells e.0 p) [
  | inl same ↦ (let named : (name e.0 == name p) ≡ true = eq-eqb (name e.0) (name p) (ap name same.1) in rw (same.0, named) (counted e.0 (e.1 - 1) pins))
  | inr differ ↦
      (let named : (name e.0 == name p) ≡ false = ne_eqb (name e.0) (name p) (λ z. differ.1 (one e.0 (is_in-head e.0 (keys pins)) z)) in
      rw (differ.0, named) (ap (λ (es : List (ℕ × ℕ)). (name e.0, e.1) ∷ es) (named-less name pins p (λ q t z. one q (is_in-tail q e.0 (keys pins) t) z))))
]
  where
    counted : (k n : ℕ) (es : List (ℕ × ℕ)) → named_entries name (with_count k n es) ≡ with_count (name k) n (named_entries name es)
    counted k zero es = refl
    counted k (suc n) es = refl
