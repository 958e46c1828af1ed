-- What is handed out, and what is left then.
use Rattle.std.specs.Prelude.{◌≡◌, ◌≢◌, ℕ, ◌+◌, ◌*◌, ◌<◌, ◌≤◌, Bool, IsTrue, false, ◌⊎◌, if◌then◌else◌, List, [], ◌∷◌, map, length, min, Option, Some, None, sum_by}
use Rattle.object_model.specs.Sets.{is_in}
use Rattle.remember_cards.specs.declared.Span.{Span}
use Rattle.remember_cards.specs.Remembered.{Held, held_whole, held_places, is_held_whole, has_held_cards, is_held}
use Rattle.remember_cards.specs.Remembering.{Remembering, remembered_by}

-- the greatest word, which stands for all numbers above it too
abbrev pub limited : ℕ → ℕ
limited n = min n 18446744073709551615

-- the items of a card
abbrev pub card_span : ℕ → ℕ → ℕ → Span
card_span card place number = record { a = place; from = limited (card * number); to = limited (card * number + card) }

-- all items
abbrev pub whole_span : ℕ → Span
whole_span place = record { a = place; from = 0; to = 18446744073709551615 }

-- what is handed out of an object that is remembered by cards: the first of them
abbrev pub span_of_cards : ℕ → ℕ → List ℕ → Span
span_of_cards card place [] = whole_span place
span_of_cards card place (number ∷ cards) = card_span card place number

-- what is handed out of an object that is remembered
abbrev pub span_of : ℕ → Held → Span
span_of card held = if held.is_whole then whole_span held.place else span_of_cards card held.place held.cards

-- what is handed out of the object at a place: all items, or those of the card that was taken
abbrev pub span_of_taken : ℕ → ℕ → Option (ℕ × Bool) → Span
span_of_taken card place None = whole_span place
span_of_taken card place (Some taken) = card_span card place taken.0

-- what is handed out next
abbrev pub next_span : ℕ → List Held → Option Span
next_span card [] = None
next_span card (held ∷ rest) = Some (span_of card held)

-- what is left of an object that is remembered by cards, once the first of them is handed out
abbrev pub left_of_cards : ℕ → List ℕ → List Held → List Held
left_of_cards place [] rest = rest
left_of_cards place (number ∷ []) rest = rest
left_of_cards place (number ∷ next ∷ cards) rest = record { place = place; is_whole = false; cards = next ∷ cards } ∷ rest

-- what is left once a span is handed out
abbrev pub left_of : List Held → List Held
left_of [] = []
left_of (held ∷ rest) = if held.is_whole then rest else left_of_cards held.place held.cards rest

-- What is left once a span was asked for: where there was none, what was kept for the next collection is to be handed out in it.
abbrev pub drained : Remembering → List Held → Remembering
drained remember [] = record remember { entries = map held_whole remember.kept; kept = [] }
drained remember (held ∷ rest) = record remember { entries = left_of (held ∷ rest) }

-- how many spans are handed out of an object
abbrev pub span_count : Held → ℕ
span_count held = if held.is_whole then 1 else length held.cards

-- how many spans are still to be handed out
abbrev pub spans_left : Remembering → ℕ
spans_left remember = sum_by span_count remember.entries

-- What the handing out of a span is to what is remembered: its items were remembered, and each of them that still is will be
-- handed out in another span. Of other objects the same is remembered.
pub record HandsOut (old new : Remembering) (span : Span) : Type 0 where
  pub there : IsTrue (is_in span.a (held_places (remembered_by old)))
  pub handed : (i : ℕ) → span.from ≤ i → i < span.to → IsTrue (is_held (remembered_by old) span.a i)
  pub covered : (i : ℕ) → i < 18446744073709551615 → IsTrue (is_held (remembered_by old) span.a i)
      → ((span.from ≤ i) × (i < span.to)) ⊎ IsTrue (is_held (remembered_by new) span.a i)
  pub fewer : (i : ℕ) → IsTrue (is_held (remembered_by new) span.a i) → IsTrue (is_held (remembered_by old) span.a i)
  pub others : (q i : ℕ) → q ≢ span.a → is_held (remembered_by new) q i ≡ is_held (remembered_by old) q i
  pub among : (q : ℕ) → IsTrue (is_in q (held_places (remembered_by new))) → IsTrue (is_in q (held_places (remembered_by old)))
  pub whole_other : (q : ℕ) → q ≢ span.a → is_held_whole (remembered_by new) q ≡ is_held_whole (remembered_by old) q
  pub cards_other : (q : ℕ) → q ≢ span.a → has_held_cards (remembered_by new) q ≡ has_held_cards (remembered_by old) q
  pub whole_here : is_held_whole (remembered_by new) span.a ≡ is_in span.a new.kept
