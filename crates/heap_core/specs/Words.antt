-- The words of a heap, place by place.
use Rattle.std.specs.Prelude.{ℕ, Option, Some, None, option_and_then, if◌then◌else◌}
use Rattle.heap_space.specs.Places.{has, word_at}
use Rattle.heap_space.specs.Memory.{Memory}
use Rattle.heap_core.specs.Heap.{HeapSeen}

-- the word at a place of a memory, where a block has the place
abbrev pub word_if : Memory → ℕ → Option ℕ
word_if memory place = if has memory.blocks place then Some (word_at memory.blocks place) else None

-- the word at a place of a heap that was started and is not spent
abbrev pub word_told : HeapSeen → ℕ → Option ℕ
word_told heap place = option_and_then (λ parts. word_if parts.memory place) heap.parts
