-- What a `Remember` keeps for the next collection, and for the one after it.
use Rattle.std.specs.Prelude.{ℕ, ◌+◌, ◌-◌, ◌/◌, suc, zero, Bool, not, if◌then◌else◌, List, [], ◌∷◌, ◌++◌, map, filter}
use Rattle.object_model.specs.Sets.{is_in}
use Rattle.remember_cards.specs.Remembered.{Held, Remembered, held_whole, is_held_whole, hold_whole, hold_cards}

-- how many items a card has, what is still to be handed out in this collection, and what is kept for the next one
pub record Remembering : Type 0 where
  pub card : ℕ
  pub entries : List Held
  pub kept : List ℕ

-- nothing is remembered
abbrev pub nothing_remembered : ℕ → Remembering
nothing_remembered card = record { card = card; entries = []; kept = [] }

-- all that is remembered: what is kept for the next collection is so whole, and comes first in it
abbrev pub remembered_by : Remembering → Remembered
remembered_by remember = record { card = remember.card; held = map held_whole remember.kept ++ remember.entries }

-- the object at a place is given whole
abbrev pub given_whole : Remembering → ℕ → Remembering
given_whole remember place =
    if is_held_whole (remembered_by remember) place then remember else record remember { entries = hold_whole remember.entries place }

-- n cards from one on
abbrev pub cards_from : ℕ → ℕ → List ℕ
cards_from card zero = []
cards_from card (suc n) = card ∷ cards_from (card + 1) n

-- the cards that hold the n items from i on, by rising number
abbrev pub cards_of : ℕ → ℕ → ℕ → List ℕ
cards_of card i zero = []
cards_of card i (suc n) = cards_from (i / card) (suc ((i + n) / card - i / card))

-- cards of the object at a place are given
abbrev pub given_cards : Remembering → ℕ → List ℕ → Remembering
given_cards remember place cards =
    if is_held_whole (remembered_by remember) place then remember else record remember { entries = hold_cards remember.entries place cards }

-- n items from i on of the object at a place are given: where it has a card table by their cards, and else whole
abbrev pub given_items : Bool → Remembering → ℕ → ℕ → ℕ → Remembering
given_items has_cards remember place i zero = remember
given_items has_cards remember place i (suc n) =
    if has_cards then given_cards remember place (cards_of remember.card i (suc n)) else given_whole remember place

-- the object at a place is kept for the next collection
abbrev pub kept_place : Remembering → ℕ → Remembering
kept_place remember place = record remember { kept = if is_in place remember.kept then remember.kept else remember.kept ++ place ∷ [] }

-- without the objects at these places
abbrev pub without_places : Remembering → List ℕ → Remembering
without_places remember dead = record remember {
  entries = filter (λ held. not (is_in held.place dead)) remember.entries;
  kept = filter (λ place. not (is_in place dead)) remember.kept;
}
