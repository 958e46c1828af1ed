-- How far homes of what is gone were given back.
use Rattle.std.specs.Prelude.{◌≡◌, ℕ, ◌+◌, ◌<◌, ◌≤◌, false, IsTrue, List, Option, Some, None}
use Rattle.heap_space.specs.Memory.{Memory}
use Rattle.heap_space.specs.Places.{lies_in_one}
use Rattle.object_view.specs.Views.{HasObject}
use Rattle.old_space.specs.HasBlocks.{KeepsSizes}
use Rattle.old_space.specs.declared.Old.{Old}
use Rattle.object_model.specs.Sets.{is_in, AreDifferent}
use Rattle.object_model.specs.ObjectWords.{words_at}
use Rattle.heap_parts.specs.Parts.{HeapParts, home_in}
use Rattle.heap_parts.specs.Places.{young_places}
use Rattle.minor_collect.specs.Homes.{GivesHomes}

-- What stays while homes are given back: the words before, the pinned objects, where objects and husks are, the units that waited and
-- the homes that were reserved before, and the words of the nursery.
pub record Giving : Type 0 where
  pub word : ℕ → ℕ
  pub pins : List ℕ
  pub places : List ℕ
  pub husks : List ℕ
  pub waiting : List ℕ
  pub home : ℕ → Option ℕ
  pub most : ℕ

-- some were given back
pub record GivesSome (giving : Giving) (now : HeapParts) : Type 0 where
  pub waiting : List ℕ
  pub gives : GivesHomes now.setup.types now.setup.settings.page giving.word giving.pins giving.places giving.husks giving.waiting giving.home (home_in now) now.old_blocks now.memory waiting
  pub differ : AreDifferent giving.places
  pub page : 0 < now.setup.settings.page
  pub inside : (q : ℕ) → IsTrue (is_in q (young_places giving.places)) → q + words_at now.setup.types giving.word q ≤ giving.most + 1
  pub small : giving.most ≤ 1048576
  pub whole : (q : ℕ) → IsTrue (is_in q (young_places giving.places)) → HasObject now.memory now.setup.types q

-- the home of an object that is not pinned can be given back
pub record CanGive (now : HeapParts) (p : ℕ) : Type 0 where
  pub giving : Giving
  pub gives : GivesSome giving now
  pub there : IsTrue (is_in p (young_places giving.places))
  pub unpinned : is_in p giving.pins ≡ false

-- the blocks of the nursery lie where they lay, and the numbers stay that memory and blocks were made with
pub record KeepsMade (old_blocks new_blocks : Old) (old new : Memory) : Type 0 where
  pub lies : (n : ℕ) → IsTrue (lies_in_one old.blocks 1 n) → IsTrue (lies_in_one new.blocks 1 n)
  pub arena : new.arena_words ≡ old.arena_words
  pub sizes : KeepsSizes old_blocks new_blocks

-- it was given back, if one was reserved
pub record GaveOne (giving : Giving) (old new : HeapParts) (p : ℕ) : Type 0 where
  pub after : GivesSome giving new
  pub only : new ≡ record old { memory = new.memory; shadows = new.shadows; old_blocks = new.old_blocks }
  pub none : home_in new p ≡ None
  pub fewer : (q at : ℕ) → home_in new q ≡ Some at → home_in old q ≡ Some at
  pub made : KeepsMade old.old_blocks new.old_blocks old.memory new.memory

-- objects of the nursery that are not pinned
abbrev pub AreGone : Giving → List ℕ → Type 0
AreGone giving dead = (p : ℕ) → IsTrue (is_in p dead) → IsTrue (is_in p (young_places giving.places)) × (is_in p giving.pins ≡ false)

-- their homes can be given back
pub record CanGiveAll (now : HeapParts) (dead : List ℕ) : Type 0 where
  pub giving : Giving
  pub gives : GivesSome giving now
  pub gone : AreGone giving dead

-- they were given back, where some were reserved
pub record GaveAll (giving : Giving) (old new : HeapParts) (dead : List ℕ) : Type 0 where
  pub after : GivesSome giving new
  pub only : new ≡ record old { memory = new.memory; shadows = new.shadows; old_blocks = new.old_blocks }
  pub none : (p : ℕ) → IsTrue (is_in p dead) → home_in new p ≡ None
  pub fewer : (q at : ℕ) → home_in new q ≡ Some at → home_in old q ≡ Some at
  pub made : KeepsMade old.old_blocks new.old_blocks old.memory new.memory
