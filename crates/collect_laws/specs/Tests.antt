-- What the code tests on the parts of a heap before it collects.
use Rattle.std.specs.Prelude.{ℕ, ◌+◌, Bool, not, ◌||◌, nat_lt, nat_le}
use Rattle.store_model.specs.Collections.{is_scanning}
use Rattle.parts_model.specs.Parts.{HeapParts}

-- whether the major step of an automatic block is due
abbrev pub is_step_due_in : HeapParts → Bool
is_step_due_in heap = not (is_scanning heap.phase) || nat_le heap.threshold heap.old_words

-- whether an automatic block comes before a birth of so many words
abbrev pub needs_block_in : HeapParts → ℕ → Bool
needs_block_in heap words = nat_lt heap.setup.settings.nursery (heap.unsettled + heap.fresh + words)

-- whether a birth of so many words would exceed the limit
abbrev pub exceeds_limit_in : HeapParts → ℕ → Bool
exceeds_limit_in heap words = nat_lt heap.setup.settings.limit (heap.unsettled + heap.old_words + words)
