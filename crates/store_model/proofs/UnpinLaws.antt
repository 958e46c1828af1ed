-- One pin less keeps the pins sound.
use Rattle.std.proofs.Common.{◌≡◌, ◌≢◌, ℕ, zero, suc, ◌-◌, ◌<◌, ◌≤◌, Bool, true, false, nat_eq, List, [], ◌∷◌, length, refl, sym, ap, ◌∙◌, subst, inl, inr, arith}
use Rattle.std.specs.Prelude.{IsFalse, ◌==◌, nat_lt, ◌||◌}
use Rattle.std.specs.List.{IsDistinct, AllByRecursion, All}
use Rattle.std.proofs.lemmas.List.Elements.{All-cons, All-head, All-tail}
use Rattle.std.proofs.lemmas.Bool.{eq-eqb, ne_eqb}
use Rattle.std.proofs.lemmas.Bool.Decides.{eqb_tells, nat_tests}
use Rattle.object_model.specs.Object.{Object}
use Rattle.object_model.specs.Sets.{is_in}
use Rattle.store_model.specs.Identity.{pin_count, pinned_less, with_count}
use Rattle.store_model.specs.Sound.{ArePinsSound}
use Rattle.object_model.proofs.Distinct.{apart-out}
use Rattle.store_model.proofs.PinLaws.{keys, less-in}

abbrev IsCounted : ℕ × ℕ → Type 0
IsCounted entry = (0 < entry.1) × (entry.1 ≤ 65535)

counted-all : (P : ℕ → Type 0) (k n : ℕ) (es : List (ℕ × ℕ)) → P k → AllByRecursion P (keys es) → AllByRecursion P (keys (with_count k n es))
counted-all P k zero es h all = all
counted-all P k (suc n) es h all = (h, all)

all-less : (P : ℕ → Type 0) (pins : List (ℕ × ℕ)) (b : ℕ) → AllByRecursion P (keys pins) → AllByRecursion P (keys (pinned_less pins b))
all-less P [] b all = tt
all-less P (e ∷ pins) b all =
    let more = all-less P pins b all.1 in
    elim (eqb_tells e.0 b) [ inl same ↦ rw same.0 (counted-all P e.0 (e.1 - 1) pins all.0 all.1) | inr differ ↦ rw differ.0 (all.0, more) ]

counted-differ : (k n : ℕ) (es : List (ℕ × ℕ)) → AllByRecursion (λ y. nat_eq k y ≡ false) (keys es) → IsDistinct nat_eq (keys es) → IsDistinct nat_eq (keys (with_count k n es))
unfolding IsDistinct
counted-differ k zero es all d = d
counted-differ k (suc n) es all d = (all, d)

less-differ : (pins : List (ℕ × ℕ)) (b : ℕ) → IsDistinct nat_eq (keys pins) → IsDistinct nat_eq (keys (pinned_less pins b))
unfolding IsDistinct
less-differ [] b d = tt
less-differ (e ∷ pins) b d =
    let more = less-differ pins b d.1 in
    elim (eqb_tells e.0 b) [
      | inl same ↦ rw same.0 (counted-differ e.0 (e.1 - 1) pins d.0 d.1)
      | inr differ ↦ rw differ.0 (all-less (λ y. nat_eq e.0 y ≡ false) pins b d.0, more)
    ]

counted-few : (k n : ℕ) (es : List (ℕ × ℕ)) → length (with_count k n es) ≤ suc (length es)
counted-few k zero es = omega arith
counted-few k (suc n) es = omega arith

less-few : (pins : List (ℕ × ℕ)) (b : ℕ) → length (pinned_less pins b) ≤ length pins
less-few [] b = omega arith
less-few (e ∷ pins) b =
    let more = less-few pins b in let here = counted-few e.0 (e.1 - 1) pins in
    elim (eqb_tells e.0 b) [ inl same ↦ rw same.0 here | inr differ ↦ rw differ.0 (omega (arith, more)) ]

counted-counted : (k n : ℕ) (es : List (ℕ × ℕ)) → n ≤ 65535 → All IsCounted es → All IsCounted (with_count k n es)
counted-counted k zero es l all = all
counted-counted k (suc n) es l all = All-cons IsCounted (k, suc n) es (omega arith, l) all

less-counted : (pins : List (ℕ × ℕ)) (b : ℕ) → All IsCounted pins → All IsCounted (pinned_less pins b)
less-counted [] b all = all
less-counted (e ∷ pins) b all =
    let head = All-head IsCounted e pins all in let tail = All-tail IsCounted e pins all in
    let more = less-counted pins b tail in
    let high = head.1 in
    elim (eqb_tells e.0 b) [
      | inl same ↦ rw same.0 (counted-counted e.0 (e.1 - 1) pins (omega (arith, high)) tail)
      | inr differ ↦ rw differ.0 (All-cons IsCounted e (pinned_less pins b) head more)
    ]

pub less_sound : {most : ℕ} {kept : List Object} {settled : List ℕ} {pinned : List (ℕ × ℕ)} (b : ℕ) → ArePinsSound most kept settled pinned
    → ArePinsSound most kept settled (pinned_less pinned b)
less_sound {pinned = pinned} b s = record {
  differ = less-differ pinned b s.differ;
  few = (let less = less-few pinned b in let few = s.few in omega (arith, less, few));
  counted = less-counted pinned b s.counted;
  unsettled = λ x t. s.unsettled x (less-in pinned b x t);
  no_references = λ x t. s.no_references x (less-in pinned b x t);
  no_target = λ x t. s.no_target x (less-in pinned b x t);
}

counted-here : (k n : ℕ) (es : List (ℕ × ℕ)) → IsFalse (is_in k (keys es)) → is_in k (keys (with_count k n es)) ≡ nat_lt 0 n
counted-here k zero es f = f
counted-here k (suc n) es f = rw (eq-eqb k k refl) (let some : nat_lt 0 (suc n) ≡ true = grind (arith, nat_tests) in sym some)

-- it is pinned still where it was pinned more than once
pub less-here : (pins : List (ℕ × ℕ)) (b : ℕ) → IsDistinct nat_eq (keys pins) → is_in b (keys (pinned_less pins b)) ≡ nat_lt 0 (pin_count pins b - 1)
unfolding IsDistinct
less-here [] b d = refl
less-here (e ∷ pins) b d =
    let more = less-here pins b d.1 in
    elim (eqb_tells e.0 b) [
      | inl same ↦ rw same.0 (let P : ℕ → Type 0 = λ k. is_in k (keys (with_count e.0 (e.1 - 1) pins)) ≡ nat_lt 0 (e.1 - 1) in subst P same.1 (counted-here e.0 (e.1 - 1) pins (apart-out e.0 (keys pins) d.0)))
      | inr differ ↦ rw (differ.0, differ.0) more
    ]

counted-other : (k n q : ℕ) (es : List (ℕ × ℕ)) → (k == q) ≡ false → is_in q (keys (with_count k n es)) ≡ is_in q (keys es)
counted-other k zero q es ne = refl
counted-other k (suc n) q es ne = rw ne refl

-- and the others as before
pub less-other : (pins : List (ℕ × ℕ)) (b q : ℕ) → q ≢ b → is_in q (keys (pinned_less pins b)) ≡ is_in q (keys pins)
less-other [] b q ne = refl
less-other (e ∷ pins) b q ne =
    let more = less-other pins b q ne in
    elim (eqb_tells e.0 b) [
      | inl same ↦
          (let apart : (e.0 == q) ≡ false = ne_eqb e.0 q (λ z. ne (sym z ∙ same.1)) in
          rw same.0 (counted-other e.0 (e.1 - 1) q pins apart ∙ sym (ap (λ (t : Bool). t || is_in q (keys pins)) apart)))
      | inr differ ↦ rw differ.0 (ap (λ (t : Bool). (e.0 == q) || t) more)
    ]
