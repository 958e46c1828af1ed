-- The cards that hold some items.
use Rattle.std.proofs.Common.{◌≡◌, ℕ, zero, suc, ◌+◌, ◌-◌, ◌/◌, ◌<◌, ◌≤◌, IsTrue, refl, inl, inr, arith}
use Rattle.std.proofs.lemmas.Bool.{cases_order}
use Rattle.std.proofs.lemmas.Bool.Decides.{eqb_tells}
use Rattle.std.proofs.Math.Nat.{div-mul-le_self}
use Rattle.std.proofs.lemmas.Nat.{le-div}
use Rattle.object_model.proofs.Members.{is_in-tail}
use Rattle.object_model.specs.Sets.{is_in}
use Rattle.remember_cards.specs.Remembering.{cards_from}

pub among_cards : (first count c : ℕ) → first ≤ c → c < first + count → IsTrue (is_in c (cards_from first count))
among_cards first zero c low high = absurd (omega (arith, low, high))
among_cards first (suc count) c low high = elim (eqb_tells first c) [
  | inl e ↦ rw e.0 refl
  | inr e ↦ is_in-tail c first (cards_from (first + 1) count) (among_cards (first + 1) count c (above e.1) (omega (arith, high)))
]
  where
    above : (first ≡ c → ⊥) → first + 1 ≤ c
    above ne = elim (cases_order first c) [ inl e ↦ absurd (ne e) | inr (inl l) ↦ omega (arith, l) | inr (inr g) ↦ absurd (omega (arith, g, low)) ]

-- an item's card is among those of the items around it
pub item_card : (card i n j : ℕ) → 0 < card → 0 < n → i ≤ j → j < i + n
    → IsTrue (is_in (j / card) (cards_from (i / card) (suc ((i + (n - 1)) / card - i / card))))
item_card card i n j some more low high =
    let least : i / card ≤ j / card = le-div (i / card) j card some (omega (arith, low, div-mul-le_self i card)) in
    let most : j / card ≤ (i + (n - 1)) / card = le-div (j / card) (i + (n - 1)) card some (omega (arith, high, div-mul-le_self j card)) in
    among_cards (i / card) (suc ((i + (n - 1)) / card - i / card)) (j / card) least (omega (arith, least, most))
