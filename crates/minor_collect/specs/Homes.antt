-- Words that stay, and reserved homes that are given back.
use Rattle.std.specs.Prelude.{◌≡◌, ℕ, ◌<◌, ◌≤◌, ◌⊎◌, false, IsTrue, List, [], ◌++◌, Option, None, length}
use Rattle.type_table.specs.declared.info.TypeInfo.{TypeInfo}
use Rattle.type_table.specs.Table.{Table}
use Rattle.heap_space.specs.Places.{word_at}
use Rattle.heap_space.specs.Memory.{Memory}
use Rattle.object_view.proofs.LayoutLaws.{SameAt}
use Rattle.old_space.specs.HasBlocks.{HasBlocks}
use Rattle.old_space.specs.declared.Old.{Old}
use Rattle.object_model.specs.Sets.{is_in}
use Rattle.heap_parts.specs.Places.{young_places, old_places}
use Rattle.heap_parts.specs.OldSpace.{blocks_of, reserved_homes, is_waiting}

-- the words of all objects and husks, the first words of reserved homes, and all words of the nursery stay
pub record KeepsAll (types : Table TypeInfo) (v w : ℕ → ℕ) (home : ℕ → Option ℕ) (places husks : List ℕ) : Type 0 where
  pub objects : (q : ℕ) → IsTrue (is_in q places) → SameAt types v w q
  pub husk : (q : ℕ) → IsTrue (is_in q husks) → SameAt types v w q
  pub shadow : (q : ℕ) → IsTrue (is_in q (reserved_homes home (young_places places))) → v q ≡ w q
  pub low : (b : ℕ) → b < 4294967296 → v b ≡ w b

-- Some reserved homes were given back, none of a pinned object. home and now: the homes that were reserved at first, and that still are.
pub record GivesHomes (types : Table TypeInfo) (page : ℕ) (word : ℕ → ℕ) (pins places husks waiting_before : List ℕ) (home now : ℕ → Option ℕ)
    (old : Old) (memory : Memory) (waiting : List ℕ) : Type 0 where
  pub blocks : HasBlocks old memory (blocks_of types (word_at memory.blocks) now (young_places places) (old_places places) husks []) waiting
  pub keeps : KeepsAll types (word_at memory.blocks) word now places husks
  pub homes : (p : ℕ) → (now p ≡ home p) ⊎ ((now p ≡ None) × (is_in p pins ≡ false))
  pub waits : (q : ℕ) → IsTrue (is_in q (old_places places ++ husks)) → is_waiting page waiting q ≡ is_waiting page waiting_before q
  pub fewer : length waiting ≤ length waiting_before
