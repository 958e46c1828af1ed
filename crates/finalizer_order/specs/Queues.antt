-- Finalizer queues: first in, first out.
use Rattle.std.specs.Prelude.{ℕ, ◌+◌, ◌<◌, List, [], ◌∷◌, ◌++◌, Option, None, Some, unwrap_or, option_map, slice_set, slice_index_or, flat_map}
use Rattle.type_table.specs.Table.{Table, value_at, with_value, without_key}
use Rattle.finalizer_order.specs.declared.entry.Entry.{Entry}

-- the first of a queue, if it is there
abbrev pub first_of : Option (List Entry) → Option Entry
first_of None = None
first_of (Some []) = None
first_of (Some (entry ∷ rest)) = Some entry

-- the queues, of which one lost its first entry; none is empty
abbrev pub without_first : Table (List Entry) → ℕ → Option (List Entry) → Table (List Entry)
without_first queues queue None = queues
without_first queues queue (Some []) = queues
without_first queues queue (Some (entry ∷ [])) = without_key queues queue
without_first queues queue (Some (entry ∷ (next ∷ rest))) = with_value queues queue (next ∷ rest)

-- the place of the object that comes next from a queue
abbrev pub next_place : Table (List Entry) → ℕ → Option ℕ
next_place queues queue = option_map (λ entry. entry.place) (first_of (value_at queues queue))

-- and the queues without it
abbrev pub take_next : Table (List Entry) → ℕ → Table (List Entry)
take_next queues queue = without_first queues queue (value_at queues queue)

-- the queues after these objects entered theirs, in order
abbrev pub queues_with : Table (List Entry) → List Entry → Table (List Entry)
queues_with queues [] = queues
queues_with queues (entry ∷ entries) =
    queues_with (with_value queues entry.queue (unwrap_or (value_at queues entry.queue) [] ++ entry ∷ [])) entries

-- queues that lie side by side, of which the first has this number, as a table of those that are not empty
abbrev pub tabled : ℕ → List (List Entry) → Table (List Entry)
tabled number [] = []
tabled number ([] ∷ queues) = tabled (number + 1) queues
tabled number ((entry ∷ entries) ∷ queues) = (number, entry ∷ entries) ∷ tabled (number + 1) queues

-- each object has one of so many queues
abbrev pub AreInRange : ℕ → List Entry → Type 0
AreInRange count [] = Unit {0}
AreInRange count (entry ∷ entries) = (entry.queue < count) × AreInRange count entries

-- queues that lie side by side, after these objects entered theirs, in order
abbrev pub push_all : List (List Entry) → List Entry → List (List Entry)
push_all queues [] = queues
push_all queues (entry ∷ entries) =
    push_all (slice_set queues entry.queue (slice_index_or queues entry.queue [] ++ entry ∷ [])) entries

-- all that waits, by rising queue
abbrev pub joined : List (List Entry) → List Entry
joined queues = flat_map (λ entries. entries) queues
