-- The lists of a heap that name objects by their places.
use Rattle.std.specs.Prelude.{◌≡◌, ℕ, IsTrue, List, Option, Some, map, flat_map, length, option_and_then}
use Rattle.type_table.specs.Table.{Table, value_at}
use Rattle.object_model.specs.Sets.{is_in}
use Rattle.store_model.specs.Store.{Struct}
use Rattle.store_model.specs.Structs.{Structs, object_of, with_objects}
use Rattle.object_model.specs.ObjectWords.{renamed}
use Rattle.object_model.specs.Holds.{IsPointer}
use Rattle.parts_model.specs.Places.{AreAmong}

-- each slot is as in the store, where its object goes by its birth
pub record HoldsSlots (slots : List ℕ) (places : List ℕ) (name : ℕ → ℕ) (roots : ℕ) (stored : List (Option ℕ)) : Type 0 where
  pub named : stored ≡ map (renamed name) slots
  pub many : length slots ≡ roots
  pub pointers : (place : ℕ) → IsTrue (is_in place slots) → IsPointer places place

-- the listed objects are among those of the places, and go by their births in the store
pub record HoldsList (listed : List ℕ) (places : List ℕ) (name : ℕ → ℕ) (stored : List ℕ) : Type 0 where
  pub named : stored ≡ map name listed
  pub there : AreAmong places listed

-- objects with the numbers of queues, by their births
abbrev pub named_entries : (ℕ → ℕ) → List (ℕ × ℕ) → List (ℕ × ℕ)
named_entries name entries = map (λ entry. (name entry.0, entry.1)) entries

abbrev pub named_queues : (ℕ → ℕ) → Table (List ℕ) → Table (List ℕ)
named_queues name queues = map (λ entry. (entry.0, map name entry.1)) queues

pub record HoldsEntries (entries : List (ℕ × ℕ)) (places : List ℕ) (name : ℕ → ℕ) (stored : List (ℕ × ℕ)) : Type 0 where
  pub named : stored ≡ named_entries name entries
  pub there : AreAmong places (map (λ entry. entry.0) entries)

pub record HoldsQueues (queues : Table (List ℕ)) (places : List ℕ) (name : ℕ → ℕ) (stored : Table (List ℕ)) : Type 0 where
  pub named : stored ≡ named_queues name queues
  pub there : AreAmong places (flat_map (λ entry. entry.1) queues)

-- the structures and the dead queue
pub record HoldsLinks (links : Structs) (places : List ℕ) (name : ℕ → ℕ) (structs : Table Struct) (dead : List ℕ) : Type 0 where
  pub named : structs ≡ with_objects name links.structs
  pub there : (number p : ℕ) → option_and_then object_of (value_at links.structs number) ≡ Some p → IsTrue (is_in p places)
  pub queue : dead ≡ links.dead
