-- What the end of marking makes of the parts of a heap.
use Rattle.std.specs.Prelude.{ℕ, Bool, not, [], ◌++◌, filter}
use Rattle.type_table.specs.Table.{Table}
use Rattle.heap_space.specs.Memory.{Memory}
use Rattle.old_space.specs.declared.Old.{Old}
use Rattle.text_model.specs.declared.line.Phase.TheVariants.{Sweeping}
use Rattle.store_model.specs.Links.{cut_links}
use Rattle.remember_cards.specs.Remembered.{without_dead}
use Rattle.heap_parts.specs.NamedFinals.{NamedFinals}
use Rattle.heap_parts.specs.Parts.{HeapParts}

-- finalizers by their births, where the births that pass are chosen
abbrev pub with_chosen_births : NamedFinals → (ℕ → Bool) → NamedFinals
with_chosen_births finals taken = record finals {
  registered = filter (λ entry. not (taken entry.0)) finals.registered;
  chosen = finals.chosen ++ filter (λ entry. taken entry.0) finals.registered;
}

-- the parts, where the tests tell which places hold condemned objects and which registered ones are chosen, and these are the husks and the finalizers by births
abbrev pub marked_parts : HeapParts → Memory → Old → (ℕ → Bool) → (ℕ → Bool) → Table ℕ → NamedFinals → HeapParts
marked_parts heap memory old_blocks dead taken husk_list finals = record heap {
  memory = memory;
  old_blocks = old_blocks;
  remembered = without_dead dead heap.remembered;
  weaks = filter (λ p. not (dead p)) heap.weaks;
  registered = filter (λ entry. not (taken entry.0)) heap.registered;
  chosen = heap.chosen ++ filter (λ entry. taken entry.0) heap.registered;
  finals = finals;
  links = cut_links dead heap.links;
  gray = [];
  phase = Sweeping;
  husk_list = husk_list;
}
