-- Objects with finalizers, from their registration until they leave their queues.
use Rattle.std.specs.Prelude.{ℕ, Bool, List, [], ◌∷◌, ◌++◌, map, flat_map}
use Rattle.type_table.specs.Table.{Table}
use Rattle.object_model.specs.Sets.{is_in}
use Rattle.finalizer_order.specs.declared.entry.Entry.{Entry}

-- What a contract sees of the finalizers.
pub record Finalizers : Type 0 where
  pub queue_count : ℕ  -- the queues have the numbers below this one
  pub registered : List Entry  -- in order of registration
  pub chosen : List Entry  -- what waits for its queue, in order of registration
  pub queues : Table (List Entry)  -- the queues that are not empty, by rising number, each from its first entry on

-- nothing is registered
abbrev pub no_finalizers : ℕ → Finalizers
no_finalizers queue_count = record { queue_count = queue_count; registered = []; chosen = []; queues = [] }

-- the places of objects
abbrev pub places_of : List Entry → List ℕ
places_of entries = map (λ entry. entry.place) entries

-- the births of objects
abbrev pub births_of : List Entry → List ℕ
births_of entries = map (λ entry. entry.birth) entries

-- the places of objects, each with the number of its queue
abbrev pub placed : List Entry → List (ℕ × ℕ)
placed entries = map (λ entry. (entry.place, entry.queue)) entries

-- the queues by places of objects
abbrev pub placed_queues : Table (List Entry) → Table (List ℕ)
placed_queues queues = map (λ queue. (queue.0, places_of queue.1)) queues

-- what is in the queues, by rising queue
abbrev pub queued_entries : Table (List Entry) → List Entry
queued_entries queues = flat_map (λ queue. queue.1) queues

-- whether the object of a birth is registered, chosen or queued
abbrev pub is_listed : Finalizers → ℕ → Bool
is_listed finals birth =
    is_in birth (births_of finals.registered ++ (births_of finals.chosen ++ births_of (queued_entries finals.queues)))

-- one more is registered
abbrev pub with_registered : Finalizers → Entry → Finalizers
with_registered finals entry = record finals { registered = finals.registered ++ entry ∷ [] }
