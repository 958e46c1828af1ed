-- What is remembered for the next minor collection: whole objects, and cards of arrays.
use Rattle.std.specs.Prelude.{◌≡◌, ◌≢◌, if◌then◌else◌, ℕ, ◌/◌, Bool, IsTrue, ◌⊎◌, ◌==◌, ◌&&◌, ◌||◌, not, true, false, List, [], ◌∷◌, map, filter}
use Rattle.std.specs.List.{list_any}
use Rattle.object_model.specs.Sets.{is_in}

-- an object that is remembered: whole, or by the cards of its items
pub record Held : Type 0 where
  pub place : ℕ
  pub is_whole : Bool
  pub cards : List ℕ

-- what is remembered, in the order of the first remembering, and how many items a card has
pub record Remembered : Type 0 where
  pub card : ℕ
  pub held : List Held

-- whether there are cards
abbrev pub has_any : List ℕ → Bool
has_any [] = false
has_any (card ∷ cards) = true

-- nothing is remembered
abbrev pub nothing_held : ℕ → Remembered
nothing_held card = record { card = card; held = [] }

-- whether an item is among those that are held
abbrev pub holds_item : ℕ → Held → ℕ → Bool
holds_item card held item = held.is_whole || is_in (item / card) held.cards

-- the places of the objects that are remembered
abbrev pub held_places : Remembered → List ℕ
held_places remembered = map (λ held. held.place) remembered.held

-- whether the object at a place is whole among these
abbrev pub is_whole_among : List Held → ℕ → Bool
is_whole_among entries place = list_any (λ held. held.place == place && held.is_whole) entries

-- whether the object at a place has cards among these
abbrev pub has_cards_among : List Held → ℕ → Bool
has_cards_among entries place = list_any (λ held. held.place == place && has_any held.cards) entries

-- whether the object at a place is remembered whole
abbrev pub is_held_whole : Remembered → ℕ → Bool
is_held_whole remembered place = is_whole_among remembered.held place

-- whether cards of the object at a place are remembered
abbrev pub has_held_cards : Remembered → ℕ → Bool
has_held_cards remembered place = has_cards_among remembered.held place

-- whether an item of the object at a place is remembered
abbrev pub is_held : Remembered → ℕ → ℕ → Bool
is_held remembered place item = list_any (λ held. held.place == place && holds_item remembered.card held item) remembered.held

-- whether an item of the object of a birth is remembered, where places have names
abbrev pub is_held_of : Remembered → (ℕ → ℕ) → ℕ → ℕ → Bool
is_held_of remembered name birth item = list_any (λ held. name held.place == birth && holds_item remembered.card held item) remembered.held

-- an object that is remembered whole
abbrev pub held_whole : ℕ → Held
held_whole place = record { place = place; is_whole = true; cards = [] }

-- entries, where that of the object at a place is changed, or a new one comes last
abbrev pub with_entry : (Held → Held) → Held → List Held → ℕ → List Held
with_entry change new [] place = new ∷ []
with_entry change new (held ∷ rest) place = if held.place == place then change held ∷ rest else held ∷ with_entry change new rest place

-- what is remembered, where the object at a place is from now on remembered whole
abbrev pub hold_whole : List Held → ℕ → List Held
hold_whole entries place = with_entry (λ held. record held { is_whole = true }) (held_whole place) entries place

abbrev pub with_whole : Remembered → ℕ → Remembered
with_whole remembered place = record remembered { held = hold_whole remembered.held place }

-- cards with one marked too, which comes first unless it was marked before
abbrev pub with_card : List ℕ → ℕ → List ℕ
with_card marked card = if is_in card marked then marked else card ∷ marked

-- cards with several marked too, in this order
abbrev pub with_cards : List ℕ → List ℕ → List ℕ
with_cards marked [] = marked
with_cards marked (card ∷ cards) = with_card (with_cards marked cards) card

-- what is remembered, where these cards of the object at a place are from now on remembered too
abbrev pub hold_cards : List Held → ℕ → List ℕ → List Held
hold_cards entries place cards =
    with_entry (λ held. record held { cards = with_cards held.cards cards }) (record { place = place; is_whole = false; cards = with_cards [] cards }) entries place

-- what is remembered, without the objects of places that pass
abbrev pub without_dead : (ℕ → Bool) → Remembered → Remembered
without_dead dead remembered = record remembered { held = filter (λ held. not (dead held.place)) remembered.held }

-- more is remembered of the object at a place, and no less of others
pub record RemembersMore (old new : Remembered) (p : ℕ) : Type 0 where
  pub card : new.card ≡ old.card
  pub there : (q : ℕ) → IsTrue (is_in q (held_places new)) → (q ≡ p) ⊎ IsTrue (is_in q (held_places old))
  pub more : (name : ℕ → ℕ) (x i : ℕ) → IsTrue (is_held_of old name x i) → IsTrue (is_held_of new name x i)
  pub whole_other : (q : ℕ) → q ≢ p → is_held_whole new q ≡ is_held_whole old q
  pub cards_other : (q : ℕ) → q ≢ p → has_held_cards new q ≡ has_held_cards old q
