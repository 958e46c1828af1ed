-- The words and parts at the end of a minor collection, by the survivors.
use Rattle.std.specs.Prelude.{◌≡◌, ◌≢◌, ℕ, ◌+◌, ◌<◌, ◌≤◌, ◌⊎◌, Bool, not, IsTrue, List, [], ◌∷◌, map, filter, filter_map, length, nat_lt, Some, sum_by}
use Rattle.type_table.specs.declared.info.TypeInfo.{TypeInfo}
use Rattle.type_table.specs.declared.info.Shape.TheVariants.{Weak}
use Rattle.type_table.specs.Table.{Table}
use Rattle.object_model.specs.Sets.{is_in}
use Rattle.store_model.specs.Store.{Store}
use Rattle.std.specs.List.Sorted.{IsPermutation}
use Rattle.heap_space.specs.Places.{lies_in_one, word_at}
use Rattle.nursery_gaps.specs.Nursery.{Layout as NurseryLayout, IsLaidOut}
use Rattle.old_space.specs.HasBlocks.{HasBlocks}
use Rattle.store_model.specs.Structs.{object_of}
use Rattle.store_model.specs.Links.{cut_links}
use Rattle.store_model.specs.MarkingOrder.{IsItem, AreAllIn, is_known}
use Rattle.remember_cards.specs.Remembered.{is_held_whole}
use Rattle.heap_parts.specs.Parts.{HeapParts, home_in, pinned_places}
use Rattle.heap_parts.specs.Places.{young_places, old_places, AreAmong, AreWhole, block_at, is_weak_at}
use Rattle.heap_parts.specs.OldSpace.{blocks_of, reserved_homes, HoldsHusks, AreUnitsSwept, is_waiting}
use Rattle.heap_parts.specs.Order.{IsGrayOf}
use Rattle.heap_parts.specs.StandsFor.{IsMadeWith}
use Rattle.minor_collect.specs.Carried.{Moved}
use Rattle.minor_collect.specs.Midway.{Midway, Changing, with_changing, Owes, is_lasting, IsLasting, Placing}
use Rattle.minor_collect.specs.Gray.{ComesGray}
use Rattle.object_model.specs.ObjectWords.{renamed, words_at, info_at, layout_at}
use Rattle.object_model.specs.Holds.{IsPointer}
use Rattle.store_model.specs.MinorCollection.{vanishes, left_target}

-- whether an object stays, where the test tells which unsettled ones survive
abbrev pub stays : Store → (ℕ → Bool) → ℕ → Bool
stays store survives x = not (vanishes store survives x)

-- the places of what stays
abbrev pub remaining : (ℕ → Bool) → (ℕ → ℕ) → List ℕ → List ℕ
remaining passes name places = filter (λ p. passes (name p)) places

-- The object at p has its words, but that a weak one's target follows to where it stays, or is nil where it is gone.
pub record IsCleared (types : Table TypeInfo) (v w : ℕ → ℕ) (gone : ℕ → Bool) (name : ℕ → ℕ) (remain : List ℕ) (p : ℕ) : Type 0 where
  pub same : (b : ℕ) → p ≤ b → b < p + words_at types w p → ((info_at types w p).shape ≡ Weak → b ≢ (layout_at types w p).ref_start) → v b ≡ w b
  pub leads : (info_at types w p).shape ≡ Weak → IsPointer remain (v (layout_at types w p).ref_start)
  pub target : (info_at types w p).shape ≡ Weak → renamed name (v (layout_at types w p).ref_start) ≡ left_target gone (renamed name (w (layout_at types w p).ref_start))

-- places that rise
abbrev pub AreAscending : ℕ → List ℕ → Type 0
AreAscending from [] = Unit {0}
AreAscending from (p ∷ ps) = (from ≤ p) × AreAscending (p + 1) ps

-- the parts at the end, where these changed, and the numbers of words are these
abbrev pub ended_parts : HeapParts → Changing → NurseryLayout → ℕ → ℕ → HeapParts
ended_parts start now nursery unsettled old_words = record (with_changing start now) {
  nursery = nursery;
  fresh = 0;
  gapped = nat_lt 0 (length start.pins);
  unsettled = unsettled;
  old_words = old_words;
}

-- what is left of the survivors, by places
abbrev pub left_places : Store → List ℕ → (ℕ → ℕ) → List ℕ → List ℕ
left_places store found name places = remaining (stays store (λ x. is_in x found)) name places

-- What the code makes of the parts from where nothing is owed to the end: targets are cleared, homes of what is gone are given
-- back, links are cut, and the nursery is made anew around the pinned objects.
pub record Completes (start : HeapParts) (store : Store) (remembered : ℕ → ℕ → Bool) (now : Changing) (held : List ℕ) (owes : Owes) (moved : Moved)
    (placing : Placing) (mid : Midway start store remembered now placing [] held [] owes moved []) (gray_before : List ℕ) (new : Changing) (nursery : NurseryLayout) (unsettled old_words : ℕ) : Type 0 where
  pub waiting : List ℕ
  pub sorted : List ℕ
  pub dead : ℕ → Bool
  -- objects: words stay, but for targets
  pub cleared : (p : ℕ) → IsTrue (is_in p (left_places store placing.found placing.name placing.places))
      → IsCleared start.setup.types (word_at new.memory.blocks) (word_at now.memory.blocks) (vanishes store (λ x. is_in x placing.found)) placing.name (left_places store placing.found placing.name placing.places) p
  pub whole : AreWhole new.memory start.setup.types (left_places store placing.found placing.name placing.places)
  pub weak : IsPermutation (filter (is_weak_at start.setup.types (word_at new.memory.blocks)) (left_places store placing.found placing.name placing.places)) new.weaks
  -- the nursery
  pub nursery_is : nursery ≡ record start.nursery { used = map (block_at start.setup.types (word_at new.memory.blocks)) sorted; gap = 1; cursor = 1 }
  pub laid_out : IsLaidOut nursery
  pub sorted_are : IsPermutation sorted (pinned_places start)
  pub nursery_whole : IsTrue (lies_in_one new.memory.blocks 1 start.nursery.words)
  -- blocks outside it
  pub blocks : HasBlocks new.old_blocks new.memory (blocks_of start.setup.types (word_at new.memory.blocks) (home_in (with_changing start new))
      (young_places (left_places store placing.found placing.name placing.places)) (old_places (left_places store placing.found placing.name placing.places)) placing.husks []) waiting
  pub husk : HoldsHusks start.setup.settings.page start.setup.types (word_at new.memory.blocks) placing.name placing.husks waiting store.husks
  pub husk_firsts : (p : ℕ) → IsTrue (is_in p placing.husks) → word_at new.memory.blocks p ≡ word_at now.memory.blocks p
  pub waits : (p : ℕ) → IsTrue (is_in p (old_places placing.places)) → is_waiting start.setup.settings.page waiting p ≡ is_waiting start.setup.settings.page placing.waiting p
  pub units : AreUnitsSwept start.phase start.setup.settings.sweep store.left waiting
  -- homes
  pub homes_keep : (p : ℕ) → IsTrue (is_in p (pinned_places start)) → home_in (with_changing start new) p ≡ home_in (with_changing start now) p
  pub homes_only : (p at : ℕ) → home_in (with_changing start new) p ≡ Some at → IsTrue (is_in p (pinned_places start))
  pub shadow_firsts : (p : ℕ) → IsTrue (is_in p (reserved_homes (home_in (with_changing start new)) (young_places (left_places store placing.found placing.name placing.places))))
      → word_at new.memory.blocks p ≡ word_at now.memory.blocks p
  -- what is remembered: what is kept for pinned objects
  pub remembered_is : new.remembered ≡ now.remembered
  pub held_whole : (q : ℕ) → IsTrue (is_in q held) → IsTrue (is_held_whole new.remembered q)
  -- marking
  pub gray : AreAmong (old_places placing.places) new.gray
  pub gray_phase : IsGrayOf start.phase new.gray
  pub gray_more : AreAllIn gray_before (map placing.name new.gray)
  pub gray_from : (y : ℕ) → IsTrue (is_in y (map placing.name new.gray)) → IsTrue (is_in y gray_before) ⊎ ComesGray store.kept (map placing.name (old_places placing.places)) store.visited y
  pub queued : (x i y : ℕ) → IsTrue (is_in x store.visited) → IsTrue (remembered x i) → IsItem store.kept x i y → IsTrue (is_in y (map placing.name (old_places placing.places)))
      → IsTrue (is_known store.visited (map placing.name new.gray) y)
  -- lists
  pub slots_same : new.slots ≡ now.slots
  pub slots_last : (p : ℕ) → IsTrue (is_in p now.slots) → IsLasting (pinned_places start) placing.places p
  pub registered_same : new.registered ≡ now.registered
  pub registered_last : (p : ℕ) → IsTrue (is_in p (map (λ entry. entry.0) now.registered)) → IsTrue (is_in p placing.places) × IsTrue (is_lasting (pinned_places start) p)
  pub links_cut : new.links ≡ cut_links dead now.links
  pub links_there : (p : ℕ) → IsTrue (is_in p (filter_map (λ entry. object_of entry.1) now.links.structs)) → IsTrue (is_in p placing.places)
  pub dead_are : (p : ℕ) → IsTrue (is_in p (filter_map (λ entry. object_of entry.1) now.links.structs)) → vanishes store (λ x. is_in x placing.found) (placing.name p) ≡ dead p
  -- numbers
  pub unsettled_are : unsettled ≡ sum_by (words_at start.setup.types (word_at new.memory.blocks)) (young_places (left_places store placing.found placing.name placing.places))
  pub old_are : old_words ≡ start.old_words + moved.words
  pub made : IsMadeWith start.setup.settings new.memory nursery new.remembered new.old_blocks
