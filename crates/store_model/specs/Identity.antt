-- Homes, hashes and pins.
use Rattle.std.specs.Prelude.{◌≡◌, ℕ, zero, suc, ◌+◌, ◌-◌, ◌/◌, ◌<◌, ◌==◌, Bool, true, false, not, ◌&&◌, IsFalse, List, [], ◌∷◌, Option, Some, None, map, length, if◌then◌else◌, nat_lt, bit_xor}
use Rattle.type_table.specs.declared.info.Shape.{Shape}
use Rattle.type_table.specs.declared.info.Shape.TheVariants.{Fixed, IntArray, RefArray, Weak}
use Rattle.type_table.specs.Table.{Table, value_at, with_value}
use Rattle.text_model.specs.declared.line.Line.{Line}
use Rattle.text_model.specs.declared.line.Line.TheVariants.{PlaceIs}
use Rattle.object_model.specs.Sets.{is_in}
use Rattle.object_model.specs.Object.{Object}
use Rattle.store_model.specs.Store.{Store, is_settled}
use Rattle.store_model.specs.Slots.{held, object_in}

-- the homes that were told
abbrev pub home_places : Table ℕ → List ℕ
home_places homes = map (λ entry. entry.1) homes

-- this place may be told: it is the home, or where there is none it is above 0 and nobody's home
abbrev pub MayTell : Option ℕ → Table ℕ → ℕ → Type 0
MayTell (Some home) homes place = place ≡ home
MayTell None homes place = (0 < place) × IsFalse (is_in place (home_places homes))

-- the home of the object in a slot is told, and is its home from then on
pub record TellsHome (old : Store) (root place : ℕ) (new : Store) : Type 0 where
  pub birth : ℕ
  pub is_held : held old.slots root ≡ Some birth
  pub may : MayTell (value_at old.homes birth) old.homes place
  pub leaves : new ≡ record old { homes = with_value old.homes birth place }

-- the hash of an object, by its home
abbrev pub hash_of : ℕ → ℕ
hash_of place = bit_xor place (place / 16)

-- whether what a slot holds is settled
abbrev pub is_settled_in : Store → Option ℕ → Bool
is_settled_in store None = false
is_settled_in store (Some birth) = is_settled store.settled birth

-- where an object is: young, or its home
abbrev pub TellsPlace : Bool → Store → ℕ → List Line → Store → Type 0
TellsPlace false old root lines new = (lines ≡ PlaceIs None ∷ []) × (new ≡ old)
TellsPlace true old root lines new = (place : ℕ) × TellsHome old root place new × (lines ≡ PlaceIs (Some place) ∷ [])

-- whether objects of the shape can hold references or a target
abbrev pub can_refer : Shape → Bool
can_refer (Fixed ints refs) = nat_lt 0 refs
can_refer IntArray = false
can_refer RefArray = true
can_refer Weak = true

-- whether what a slot holds can; nothing counts as if it could
abbrev pub can_refer_in : Option Object → Bool
can_refer_in None = true
can_refer_in (Some object) = can_refer object.info.shape

-- how many times the object of a birth is pinned
abbrev pub pin_count : List (ℕ × ℕ) → ℕ → ℕ
pin_count [] birth = 0
pin_count (entry ∷ pinned) birth = if entry.0 == birth then entry.1 else pin_count pinned birth

-- one pin more, and one less
abbrev pub pinned_more : List (ℕ × ℕ) → ℕ → List (ℕ × ℕ)
pinned_more [] birth = (birth, 1) ∷ []
pinned_more (entry ∷ pinned) birth = if entry.0 == birth then (entry.0, entry.1 + 1) ∷ pinned else entry ∷ pinned_more pinned birth

-- the pins with this count of the object in front of them, if it is above 0
abbrev pub with_count : ℕ → ℕ → List (ℕ × ℕ) → List (ℕ × ℕ)
with_count birth zero pinned = pinned
with_count birth (suc n) pinned = (birth, suc n) ∷ pinned

-- and one less
abbrev pub pinned_less : List (ℕ × ℕ) → ℕ → List (ℕ × ℕ)
pinned_less [] birth = []
pinned_less (entry ∷ pinned) birth = if entry.0 == birth then with_count entry.0 (entry.1 - 1) pinned else entry ∷ pinned_less pinned birth

-- whether one pin more may be counted
abbrev pub has_pin_room : ℕ → List (ℕ × ℕ) → ℕ → Bool
has_pin_room pins pinned zero = nat_lt (length pinned) pins
has_pin_room pins pinned (suc n) = nat_lt (suc n) 65535

-- whether one pin more may be counted of a birth and its object
abbrev pub can_pin_birth : ℕ → Store → Option ℕ → Option Object → Bool
can_pin_birth pins store None object = false
can_pin_birth pins store (Some birth) object =
    not (is_settled store.settled birth) && (not (can_refer_in object) && has_pin_room pins store.pinned (pin_count store.pinned birth))

-- whether what a slot holds can be pinned
abbrev pub can_pin : ℕ → Store → ℕ → Bool
can_pin pins store root = can_pin_birth pins store (held store.slots root) (object_in store.slots store.kept root)

-- the pins after the answer yes or no
abbrev pub pinned_with : Bool → List (ℕ × ℕ) → Option ℕ → List (ℕ × ℕ)
pinned_with false pinned birth = pinned
pinned_with true pinned None = pinned
pinned_with true pinned (Some birth) = pinned_more pinned birth

-- the store with one pin more of what a slot holds, if it can be pinned
abbrev pub pin_slot : ℕ → Store → ℕ → Store
pin_slot pins store root = record store { pinned = pinned_with (can_pin pins store root) store.pinned (held store.slots root) }

-- the pins without one of what a slot holds
abbrev pub without_held : List (ℕ × ℕ) → Option ℕ → List (ℕ × ℕ)
without_held pinned None = pinned
without_held pinned (Some birth) = pinned_less pinned birth

-- the store with one pin less of what a slot holds
abbrev pub unpin_slot : Store → ℕ → Store
unpin_slot store root = record store { pinned = without_held store.pinned (held store.slots root) }
