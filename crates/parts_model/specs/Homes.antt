-- A home is reserved for an object of the nursery.
use Rattle.std.specs.Prelude.{◌≡◌, ℕ, ◌<◌, ◌≤◌, None}
use Rattle.std.specs.FinMap as map_of
use Rattle.heap_space.specs.Places.{with_word}
use Rattle.object_header.specs.Words.{with_flag}
use Rattle.object_header.specs.declared.flags.Flag.TheVariants.{HasShadow, Shadow}
use Rattle.object_model.specs.ObjectWords.{words_at}
use Rattle.object_view.specs.Views.{HasObject}
use Rattle.old_space.specs.HasBlocks.{Stands}
use Rattle.parts_model.specs.Parts.{HeapParts, word_in, home_in}
use Rattle.parts_model.specs.Births.{TakesBlock}

-- the first word of a home that is reserved
abbrev pub shadow_word : ℕ
shadow_word = with_flag 0 Shadow

-- a home can be reserved for the object at a place
pub record CanReserve (heap : HeapParts) (place : ℕ) : Type 0 where
  pub object : HasObject heap.memory heap.setup.types place
  pub young : place < 4294967296
  pub words_few : words_at heap.setup.types (word_in heap) place ≤ 16777219
  pub stands : Stands heap.old_blocks heap.memory
  pub none : home_in heap place ≡ None

-- A block of the words of the object at a place is taken, its first word says that it is a home, and the object's that it has one.
pub record ReservesHome (old new : HeapParts) (place home : ℕ) : Type 0 where
  pub middle : HeapParts
  pub takes : TakesBlock old middle (words_at old.setup.types (word_in old) place) home
  pub is : new ≡ record middle {
    memory = record middle.memory { blocks = with_word (with_word middle.memory.blocks home shadow_word) place (with_flag (word_in old place) HasShadow) };
    shadows = map_of.insert middle.shadows place home;
  }
