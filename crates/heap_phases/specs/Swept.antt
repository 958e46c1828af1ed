-- What sweeping makes of the parts of a heap and of the store.
use Rattle.std.specs.Prelude.{ℕ, ◌-◌, not, List}
use Rattle.type_table.specs.Table.{Table}
use Rattle.heap_space.specs.Memory.{Memory}
use Rattle.old_space.specs.declared.Old.{Old}
use Rattle.object_model.specs.Sets.{is_in}
use Rattle.store_model.specs.Store.{Store, husk_words}
use Rattle.store_model.specs.Sweeping.{husks_where, without_husks as without}
use Rattle.sweep_steps.specs.declared.SweepState.{SweepState}
use Rattle.sweep_steps.specs.declared.SweepState.TheVariants.{Working, Finished}
use Rattle.text_model.specs.declared.line.Phase.{Phase}
use Rattle.text_model.specs.declared.line.Phase.TheVariants.{Sweeping, Finalizing}
use Rattle.heap_parts.specs.Parts.{HeapParts}

-- the store without the husks of these births, in the same phase
abbrev pub without_husks : Store → List ℕ → Store
without_husks store births = without store (λ x. is_in x births)

-- the words of the husks of these births
abbrev pub freed_words : Table ℕ → List ℕ → ℕ
freed_words husks births = husk_words (husks_where husks (λ x. is_in x births))

-- the parts, where the husks of these births were freed
abbrev pub swept_parts : HeapParts → Memory → Old → List ℕ → HeapParts
swept_parts heap memory old_blocks births = record heap {
  memory = memory;
  old_blocks = old_blocks;
  old_words = heap.old_words - freed_words heap.husk_list births;
  husk_list = husks_where heap.husk_list (λ x. not (is_in x births));
}

-- the phase where a sweep has come so far
abbrev pub phase_of : SweepState → Phase
phase_of Working = Sweeping
phase_of Finished = Finalizing
