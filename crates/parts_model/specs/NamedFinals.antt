-- Registered, chosen and queued objects by their births.
use Rattle.std.specs.Prelude.{ℕ, List, ◌++◌, map, flat_map}
use Rattle.type_table.specs.Table.{Table}
use Rattle.finalizer_order.specs.Finalizers.{Finalizers, births_of}

-- objects with finalizers by their births, and how many queues there are
pub record NamedFinals : Type 0 where
  pub queue_count : ℕ
  pub registered : List (ℕ × ℕ)  -- births and queues, in order of registration
  pub chosen : List (ℕ × ℕ)  -- what waits for its queue
  pub queues : Table (List ℕ)  -- the queues that are not empty

-- these, where there are so many queues
abbrev pub named_finals : ℕ → List (ℕ × ℕ) → List (ℕ × ℕ) → Table (List ℕ) → NamedFinals
named_finals queue_count registered chosen queues =
    record { queue_count = queue_count; registered = registered; chosen = chosen; queues = queues }

-- what finalizers that know places too tell of births
abbrev pub births_told : Finalizers → NamedFinals
births_told finals = record {
  queue_count = finals.queue_count;
  registered = map (λ entry. (entry.birth, entry.queue)) finals.registered;
  chosen = map (λ entry. (entry.birth, entry.queue)) finals.chosen;
  queues = map (λ queue. (queue.0, births_of queue.1)) finals.queues;
}

-- the births of all that are registered, chosen or queued
abbrev pub final_births : NamedFinals → List ℕ
final_births finals =
    map (λ entry. entry.0) finals.registered ++ (map (λ entry. entry.0) finals.chosen ++ flat_map (λ entry. entry.1) finals.queues)
