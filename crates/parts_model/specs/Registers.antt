-- An object is registered, and the first of a queue leaves it.
use Rattle.std.specs.Prelude.{ℕ, ◌+◌, Bool, [], ◌∷◌, ◌++◌, Option}
use Rattle.type_table.specs.Table.{value_at}
use Rattle.object_model.specs.Sets.{is_in}
use Rattle.store_model.specs.PlainCommands.{first_of, without_first}
use Rattle.parts_model.specs.NamedFinals.{NamedFinals, final_births}
use Rattle.parts_model.specs.Parts.{HeapParts, word_in}

-- the birth of the object at a place
abbrev pub birth_in : HeapParts → ℕ → ℕ
birth_in heap place = word_in heap (place + 1)

-- whether the object at a place is registered, chosen or queued
abbrev pub is_final : HeapParts → ℕ → Bool
is_final heap place = is_in (birth_in heap place) (final_births heap.finals)

-- one more birth is registered, at the end
abbrev pub with_final : NamedFinals → ℕ → ℕ → NamedFinals
with_final finals birth queue = record finals { registered = finals.registered ++ (birth, queue) ∷ [] }

-- the heap with one registered object more
abbrev pub with_registered : HeapParts → ℕ → ℕ → HeapParts
with_registered heap place queue = record heap {
  registered = heap.registered ++ (place, queue) ∷ [];
  finals = with_final heap.finals (birth_in heap place) queue;
}

-- the place of the first object of a queue, None where it is empty
abbrev pub next_place : HeapParts → ℕ → Option ℕ
next_place heap queue = first_of (value_at heap.queues queue)

-- a queue lost its first birth
abbrev pub less_final : NamedFinals → ℕ → NamedFinals
less_final finals queue = record finals { queues = without_first finals.queues queue (value_at finals.queues queue) }

-- the heap where a queue lost its first object
abbrev pub without_next : HeapParts → ℕ → HeapParts
without_next heap queue = record heap {
  queues = without_first heap.queues queue (value_at heap.queues queue);
  finals = less_final heap.finals queue;
}
