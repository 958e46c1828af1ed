-- What is remembered as two structures: the places in order, and marks of the arrays of which cards are remembered.
use Rattle.std.specs.Prelude.{◌≡◌, ℕ, ◌==◌, ◌||◌, Bool, IsTrue, true, false, nat_eq, if◌then◌else◌, List, [], ◌∷◌, Option, Some, None, is_some, map, not}
use Rattle.std.specs.Map.{lookup}
use Rattle.object_model.specs.Sets.{is_in, AreDifferent}
use Rattle.remember_cards.specs.Remembered.{Held, held_whole, has_any, with_cards}

-- what is remembered of an array: all of it, or the items of these cards
pub record Marks : Type 0 where
  pub is_whole : Bool
  pub cards : List ℕ

-- nothing of it
abbrev pub no_marks : Marks
no_marks = record { is_whole = false; cards = [] }

-- the marks at each place
abbrev pub MarksAt : Type 0
MarksAt = ℕ → Option Marks

-- the marks at each place, as a table has them
abbrev pub marks_in : List (ℕ × Marks) → MarksAt
marks_in table place = lookup (nat_eq place) table

-- the marks at each place, where those at one are these
abbrev pub with_marks : MarksAt → ℕ → Option Marks → MarksAt
with_marks marks place changed q = if q == place then changed else marks q

-- an object in the order: one without marks is remembered whole
abbrev pub held_at : ℕ → Option Marks → Held
held_at place None = held_whole place
held_at place (Some marks) = record { place = place; is_whole = marks.is_whole; cards = marks.cards }

-- the objects in the order, by the marks at each place
abbrev pub entries_of : MarksAt → List ℕ → List Held
entries_of marks order = map (λ place. held_at place (marks place)) order

-- no object has two entries, and each is remembered whole or has cards
abbrev pub AreOrderly : List Held → Type 0
AreOrderly [] = Unit {0}
AreOrderly (held ∷ rest) = (is_in held.place (map (λ other. other.place) rest) ≡ false) × ((held.is_whole || has_any held.cards) ≡ true) × AreOrderly rest

-- the set of the kept places has those in the order, none of them twice
pub record AreKept (places order : List ℕ) : Type 0 where
  pub same : places ≡ order
  pub differ : AreDifferent order

-- no place stands twice in the order, and what has marks stands there and has cards
pub record AreListed (marks : MarksAt) (order : List ℕ) : Type 0 where
  pub differ : AreDifferent order
  pub listed : (place : ℕ) → IsTrue (is_some (marks place)) → IsTrue (is_in place order)
  pub some_cards : (place : ℕ) → IsTrue (is_some (marks place)) → has_any (held_at place (marks place)).cards ≡ true

-- marks where all is remembered
abbrev pub marked_whole : Option Marks → Option Marks
marked_whole None = None
marked_whole (Some marks) = Some (record marks { is_whole = true })

-- the marks that an array has, or none
abbrev pub marks_or_none : Option Marks → Marks
marks_or_none None = no_marks
marks_or_none (Some marks) = marks

-- marks with these cards too
abbrev pub marked_cards : Marks → List ℕ → Marks
marked_cards marks cards = record marks { cards = with_cards marks.cards cards }

-- what is taken off where the next card is asked for: the card, and whether it was the last one; nothing where all is remembered
abbrev pub taken_of : List ℕ → Option (ℕ × Bool)
taken_of [] = None
taken_of (card ∷ []) = Some (card, true)
taken_of (card ∷ next ∷ cards) = Some (card, false)

abbrev pub taken_card : Marks → Option (ℕ × Bool)
taken_card marks = if marks.is_whole then None else taken_of marks.cards

-- whether a card was taken that was not the last one
abbrev pub is_more_left : Option (ℕ × Bool) → Bool
is_more_left None = false
is_more_left (Some taken) = not taken.1

-- and what is left
abbrev pub without_first : List ℕ → List ℕ
without_first [] = []
without_first (card ∷ cards) = cards

abbrev pub left_marks : Marks → Marks
left_marks marks = if marks.is_whole then marks else record marks { cards = without_first marks.cards }
