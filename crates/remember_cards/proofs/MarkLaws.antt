-- Cards of an array are marked, from the last to the first. The set has them in the order of marking, and what is seen is the reverse.
use Rattle.std.proofs.Common.{◌≡◌, ℕ, ◌+◌, ◌-◌, ◌≤◌, suc, Bool, true, false, nat_eq, List, [], ◌∷◌, refl, sym, ap, ap₂, ◌∙◌, inl, inr, arith}
use Rattle.std.specs.Prelude.{reverse, ◌==◌, ◌||◌}
use Rattle.std.specs.List.{list_any}
use Rattle.std.proofs.lemmas.Bool.{cases_Bool}
use Rattle.std.proofs.lemmas.Bool.Decides.{nat_tests}
use Rattle.std.proofs.lemmas.List.{reverse-append}
use Rattle.std.proofs.lemmas.List.Folds.{list_any-append}
use Rattle.indexmap.specs.IndexSet.{insert_key}
use Rattle.object_model.specs.Sets.{is_in}
use Rattle.remember_cards.specs.Remembered.{with_card, with_cards}
use Rattle.remember_cards.specs.Remembering.{cards_from}
use Rattle.remember_cards.specs.Entries.{Marks, marked_cards}

or-false : (b : Bool) → (b || false) ≡ b
or-false true = refl
or-false false = refl

or-turned : (a b : Bool) → (a || b) ≡ (b || a)
or-turned true true = refl
or-turned true false = refl
or-turned false true = refl
or-turned false false = refl

eq-turned : (c y : ℕ) → (y == c) ≡ nat_eq c y
eq-turned c y = grind (arith, nat_tests)

-- the set's test is that of what is seen
pub in_reverse : (c : ℕ) (keys : List ℕ) → is_in c (reverse keys) ≡ list_any (nat_eq c) keys
in_reverse c [] = refl
in_reverse c (k ∷ keys) =
    ap (is_in c) (reverse-append (k ∷ []) keys)
    ∙ (list_any-append (λ y. y == c) (reverse keys) (k ∷ [])
    ∙ (ap₂ (λ (a b : Bool). a || b) (in_reverse c keys) (or-false (k == c) ∙ eq-turned c k)
    ∙ or-turned (list_any (nat_eq c) keys) (nat_eq c k)))

-- the set with a card is what is seen with it
pub marked_one : (keys : List ℕ) (c : ℕ) → reverse (insert_key nat_eq keys c) ≡ with_card (reverse keys) c
marked_one keys c = elim (cases_Bool (list_any (nat_eq c) keys)) [
  | inl is ↦ let seen : is_in c (reverse keys) ≡ true = in_reverse c keys ∙ is in rw is (rw seen refl)
  | inr isnt ↦ let seen : is_in c (reverse keys) ≡ false = in_reverse c keys ∙ isnt in rw isnt (rw seen (reverse-append keys (c ∷ [])))
]

-- one more card is marked
pub marked_step : (keys new marked : List ℕ) (card last : ℕ) → 1 ≤ card → card ≤ last + 1 → new ≡ insert_key nat_eq keys (card - 1)
    → reverse keys ≡ with_cards marked (cards_from card (last + 1 - card)) → reverse new ≡ with_cards marked (cards_from (card - 1) (last + 1 - (card - 1)))
marked_step keys new marked card last some within inserted have =
    let count : last + 1 - (card - 1) ≡ suc (last + 1 - card) = omega arith in
    let next : card - 1 + 1 ≡ card = omega arith in
    ap reverse inserted ∙ (marked_one keys (card - 1)
    ∙ (ap (λ (m : List ℕ). with_card m (card - 1)) (have ∙ ap (λ (x : ℕ). with_cards marked (cards_from x (last + 1 - card))) (sym next))
    ∙ ap (λ (n : ℕ). with_cards marked (cards_from (card - 1) n)) (sym count)))

-- no card is marked yet
pub marked_none : (keys marked : List ℕ) (last : ℕ) → reverse keys ≡ marked → reverse keys ≡ with_cards marked (cards_from (last + 1) (last + 1 - (last + 1)))
marked_none keys marked last have = let count : last + 1 - (last + 1) ≡ 0 = omega arith in
    have ∙ ap (λ (n : ℕ). with_cards marked (cards_from (last + 1) n)) (sym count)

abbrev seen : Bool → List ℕ → Marks
seen whole cards = record { is_whole = whole; cards = cards }

-- all are
pub marked_all : (whole : Bool) (keys : List ℕ) (before : Marks) (card first last : ℕ) → card ≡ first → first ≤ last → whole ≡ before.is_whole
    → reverse keys ≡ with_cards before.cards (cards_from card (last + 1 - card))
    → seen whole (reverse keys) ≡ marked_cards before (cards_from first (suc (last - first)))
marked_all whole keys before card first last at order same have =
    let count : last + 1 - card ≡ suc (last - first) = omega (arith, at, order) in
    ap₂ seen same
    (have ∙ ap₂ (λ (x n : ℕ). with_cards before.cards (cards_from x n)) at count)
