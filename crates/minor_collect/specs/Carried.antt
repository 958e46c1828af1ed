-- What the middle of a minor collection carries from the beginning to the end: what was remembered, gray and weak as it began goes by
-- the names that places have now, and objects are counted.
use Rattle.std.specs.Prelude.{◌≡◌, ℕ, ◌+◌, Bool, true, nat_eq, IsTrue, List, map, filter, length}
use Rattle.std.specs.List.{IsDistinct}
use Rattle.type_table.specs.declared.info.TypeInfo.{TypeInfo}
use Rattle.type_table.specs.Table.{Table}
use Rattle.nursery_gaps.specs.Ranges.{Range}
use Rattle.object_model.specs.Sets.{is_in}
use Rattle.heap_parts.specs.Nursery.{AreWalks, walked}
use Rattle.std.specs.List.Sorted.{IsPermutation}
use Rattle.object_model.specs.Object.{Object}
use Rattle.object_model.specs.Shapes.{is_weak_shape}
use Rattle.store_model.specs.Store.{Store}
use Rattle.remember_cards.specs.Remembered.{held_places, is_held_of}
use Rattle.heap_parts.specs.Parts.{HeapParts, word_in}
use Rattle.heap_parts.specs.Places.{is_young, young_places, old_places, AreAmong}
use Rattle.heap_parts.specs.Lists.{HoldsList}

-- how many objects moved, and how many words they have
pub record Moved : Type 0 where
  pub objects : ℕ
  pub words : ℕ

abbrev pub none_moved : Moved
none_moved = record { objects = 0; words = 0 }

-- and one more, of so many words
abbrev pub one_moved : Moved → ℕ → Moved
one_moved before words = record { objects = before.objects + 1; words = before.words + words }

-- the births of objects at these places, as the words tell them
abbrev pub births_read : HeapParts → List ℕ → List ℕ
births_read heap places = map (λ p. word_in heap (p + 1)) places

-- the births of weak objects
abbrev pub weak_births : List Object → List ℕ
weak_births kept = map (λ object. object.birth) (filter (λ object. is_weak_shape object.info.shape) kept)

-- Which places the walks through the used ranges come to, as the collection began: of those that references may have, all that
-- still hold an object of the nursery.
pub record HoldsWalked (types : Table TypeInfo) (word : ℕ → ℕ) (used : List Range) (met places : List ℕ) : Type 0 where
  pub walks : List (List ℕ)
  pub walk : AreWalks types word used walks
  pub differ : IsDistinct nat_eq (walked walks)
  pub young : (x : ℕ) → IsTrue (is_in x (walked walks)) → IsTrue (is_in x met) × (is_young x ≡ true)
  pub all : (x : ℕ) → IsTrue (is_in x (young_places places)) → IsTrue (is_in x (walked walks))

pub record Carried (start : HeapParts) (store : Store) (remembered : ℕ → ℕ → Bool) (gray met places : List ℕ) (name : ℕ → ℕ) (moved : ℕ) : Type 0 where
  pub held_there : AreAmong (old_places places) (held_places start.remembered)
  pub held_named : (x i : ℕ) → is_held_of start.remembered name x i ≡ remembered x i
  pub gray_same : gray ≡ start.gray
  pub gray_are : HoldsList start.gray met name (births_read start start.gray)
  pub weaks_are : HoldsList start.weaks met name (births_read start start.weaks)
  pub weak_are : IsPermutation (weak_births store.kept) (births_read start start.weaks)
  pub walked_are : HoldsWalked start.setup.types (word_in start) start.nursery.used met places
  pub counted : length (old_places places) ≡ length store.settled + moved
