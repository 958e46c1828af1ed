-- The parts of a heap in the middle of a minor collection: they stand for the store with which it began, in which those that
-- moved are settled already, but references and lists may still have places that objects left.
use Rattle.std.specs.Prelude.{◌≡◌, ℕ, ◌+◌, ◌<◌, ◌≤◌, ◌⊎◌, Bool, true, false, not, ◌||◌, IsTrue, List, ◌∷◌, map, slice_get, Some, sum_by}
use Rattle.type_table.specs.declared.info.TypeInfo.{TypeInfo}
use Rattle.type_table.specs.Table.{Table, KeysRise}
use Rattle.heap_space.specs.Places.{lies_in_one, word_at}
use Rattle.heap_space.specs.Memory.{Memory}
use Rattle.nursery_gaps.specs.Nursery.{Layout as NurseryLayout}
use Rattle.old_space.specs.declared.Old.{Old}
use Rattle.old_space.specs.HasBlocks.{HasBlocks}
use Rattle.heap_space.specs.Extents.{Extent}
use Rattle.object_view.specs.Moving.{IsMoving}
use Rattle.object_model.specs.Sets.{is_in}
use Rattle.object_model.specs.Object.{Object}
use Rattle.store_model.specs.Store.{Store, settled_words}
use Rattle.store_model.specs.Structs.{Structs}
use Rattle.std.specs.Ordering.{nat_cmp}
use Rattle.std.specs.FinMap as map_of
use Rattle.object_model.specs.ObjectWords.{renamed, updated, words_at, layout_at}
use Rattle.object_view.proofs.MoveLaws.{moved_to}
use Rattle.object_model.specs.Holds.{HoldsObjects}
use Rattle.store_model.specs.MinorCollection.{is_unsettled, is_entry, refers_unsettled}
use Rattle.remember_cards.specs.Remembered.{Remembered}
use Rattle.heap_parts.specs.Parts.{HeapParts, home_in, pinned_places}
use Rattle.heap_parts.specs.Places.{is_young, young_places, old_places, AreAmong, AreWhole, RiseBetween}
use Rattle.heap_parts.specs.OldSpace.{blocks_of, HoldsHusks, AreUnitsSwept}
use Rattle.heap_parts.specs.Lists.{HoldsSlots, HoldsEntries, HoldsQueues, HoldsLinks}
use Rattle.heap_parts.specs.StandsFor.{HoldsHeaders, HoldsYoungFlags, HoldsVisited, HoldsRemembered, HoldsHomes, IsMadeWith}
use Rattle.minor_collect.specs.Carried.{Moved, Carried}
use Rattle.minor_collect.specs.Traces.{Traces}
use Rattle.minor_collect.specs.Entries.{has_remembered_referrer}

-- whether an object at the place stays there: it is outside the nursery, or pinned
abbrev pub is_lasting : List ℕ → ℕ → Bool
is_lasting pins x = not (is_young x) || is_in x pins

-- nil, or the place of an object that stays there
abbrev pub IsLasting : List ℕ → List ℕ → ℕ → Type 0
IsLasting pins places x = (x ≡ 0) ⊎ (IsTrue (is_in x places) × IsTrue (is_lasting pins x))

-- what is to be done yet: of the items of objects (by places), of slots and of registered objects (by numbers), of links (by places)
pub record Owes : Type 0 where
  pub items : ℕ → ℕ → Bool
  pub slots : ℕ → Bool
  pub registered : ℕ → Bool
  pub links : ℕ → Bool

-- nothing is owed
pub record OwesNone (owes : Owes) : Type 0 where
  pub items : (q j : ℕ) → owes.items q j ≡ false
  pub slots : (k : ℕ) → owes.slots k ≡ false
  pub registered : (k : ℕ) → owes.registered k ≡ false
  pub links : (p : ℕ) → owes.links p ≡ false

-- what was told of the heap as it began: the items that are remembered, by births
abbrev pub AtStart : Type 0
AtStart = ℕ → ℕ → Bool

-- The words: all objects stand somewhere, those that moved have left their first places, and blocks are as in a heap that stands.
pub record HoldsMidWords (types : Table TypeInfo) (page : ℕ) (memory : Memory) (nursery : NurseryLayout)
    (kept : List Object) (stored_husks : List (ℕ × ℕ)) (met places husks waiting : List ℕ) (name : ℕ → ℕ) : Type 0 where
  pub objects : HoldsObjects types (word_at memory.blocks) met places name kept
  pub moving : IsMoving types (word_at memory.blocks) met places name
  pub whole : AreWhole memory types places
  pub inside : (p : ℕ) → IsTrue (is_in p (young_places places)) → p + words_at types (word_at memory.blocks) p ≤ nursery.words + 1
  pub left_low : (x : ℕ) → IsTrue (is_in x met) → IsTrue (is_in x places) ⊎ (x + 1 ≤ nursery.words)
  pub nursery_whole : IsTrue (lies_in_one memory.blocks 1 nursery.words)
  pub husk : HoldsHusks page types (word_at memory.blocks) name husks waiting stored_husks

-- an item that was looked at is nil, or leads to what stays; where that is pinned, its object is held for the next collection
abbrev pub IsDone : List ℕ → List ℕ → List ℕ → ℕ → ℕ → Type 0
IsDone pins places held q x = (x ≡ 0) ⊎ ((IsTrue (is_in x places) × (is_young x ≡ false)) ⊎ (IsTrue (is_in x places) × (IsTrue (is_in x pins) × IsTrue (is_in q held))))

-- Where the collection is. found: births; todo: the places of objects outside the nursery that are still to be opened; held: the
-- places of objects that are kept for pinned ones; left: the births that are still to be looked at.
pub record Follows (types : Table TypeInfo) (store : Store) (remembered : ℕ → ℕ → Bool) (pins : List ℕ) (word : ℕ → ℕ) (met places : List ℕ) (name : ℕ → ℕ)
    (found todo held left : List ℕ) (owes : Owes) : Type 0 where
  pub trace : Traces (is_entry store (has_remembered_referrer store remembered)) (refers_unsettled store) (is_unsettled store) found (map name todo) left
  pub todo_old : AreAmong (old_places places) todo
  -- what stays was settled, or is found
  pub lasts : (x : ℕ) → IsTrue (is_in x places) → IsTrue (is_lasting pins x) → IsTrue (is_unsettled store (name x)) → IsTrue (is_in (name x) found)
  -- what waits to move is not found
  pub waits : (x : ℕ) → IsTrue (is_in x places) → is_lasting pins x ≡ false → IsTrue (is_unsettled store (name x)) × (is_in (name x) found ≡ false)
  -- what moved is found, and stands outside the nursery
  pub gone : (x : ℕ) → IsTrue (is_in x met) → word x ≡ 18446744073709551615 → (is_young (word (x + 1)) ≡ false) × (IsTrue (is_in (name x) found) × (is_young x ≡ true))
  -- each item of what stays is to be looked at, was so, or was forgotten by the barrier before the collection began
  pub looked : (q j : ℕ) → IsTrue (is_in q places) → IsTrue (is_lasting pins q) → j < (layout_at types word q).ref_count →
      IsTrue (is_in q todo) ⊎ (IsTrue (owes.items q j) ⊎ ((IsTrue (is_in (name q) store.settled) × (remembered (name q) j ≡ false))
      ⊎ IsDone pins places held q (word ((layout_at types word q).ref_start + j))))

-- a place was followed to y without a move: y stays, is the same object, and need not be looked at
pub record FollowedTo (store : Store) (pins places found : List ℕ) (name : ℕ → ℕ) (x y : ℕ) : Type 0 where
  pub lasts : IsLasting pins places y
  pub same_name : renamed name y ≡ renamed name x
  pub known : IsTrue (is_in (name x) found) ⊎ (is_unsettled store (name x) ≡ false)

-- the lists whose places are followed
pub record FollowsLists (pins places : List ℕ) (owes : Owes) (slots : List ℕ) (registered : List (ℕ × ℕ)) (linked : List ℕ) : Type 0 where
  pub slot : (k p : ℕ) → slice_get slots k ≡ Some p → IsTrue (owes.slots k) ⊎ IsLasting pins places p
  pub entry : (k : ℕ) (e : ℕ × ℕ) → slice_get registered k ≡ Some e → IsTrue (owes.registered k) ⊎ IsLasting pins places e.0
  pub link : (p : ℕ) → IsTrue (is_in p linked) → IsTrue (owes.links p) ⊎ (IsTrue (is_in p places) × ((is_lasting pins p ≡ true) ⊎ (is_lasting pins p ≡ false)))

-- what changes before the nursery is made anew
pub record Changing : Type 0 where
  pub memory : Memory
  pub old_blocks : Old
  pub remembered : Remembered
  pub shadows : map_of.FinMap nat_cmp ℕ
  pub weaks : List ℕ
  pub registered : List (ℕ × ℕ)
  pub links : Structs
  pub gray : List ℕ
  pub slots : List ℕ

abbrev pub with_changing : HeapParts → Changing → HeapParts
with_changing start now = record start {
  memory = now.memory;
  old_blocks = now.old_blocks;
  remembered = now.remembered;
  shadows = now.shadows;
  weaks = now.weaks;
  registered = now.registered;
  links = now.links;
  gray = now.gray;
  slots = now.slots;
}

-- what changes, as the parts of a heap have it
abbrev pub changing_of : HeapParts → Changing
changing_of heap = record {
  memory = heap.memory;
  old_blocks = heap.old_blocks;
  remembered = heap.remembered;
  shadows = heap.shadows;
  weaks = heap.weaks;
  registered = heap.registered;
  links = heap.links;
  gray = heap.gray;
  slots = heap.slots;
}

-- Where things are in the middle: the places that references may have, those where objects are, those of husks, the units that
-- wait, the births by which places are named, and the births that are found.
pub record Placing : Type 0 where
  pub met : List ℕ
  pub places : List ℕ
  pub husks : List ℕ
  pub waiting : List ℕ
  pub name : ℕ → ℕ
  pub found : List ℕ

-- and where they are once the object at p has moved to a
abbrev pub one_settled : Placing → ℕ → ℕ → Placing
one_settled placing p a = record {
  met = a ∷ placing.met;
  places = map (moved_to p a) placing.places;
  husks = placing.husks;
  waiting = placing.waiting;
  name = updated placing.name a (placing.name p);
  found = placing.name p ∷ placing.found;
}

-- The middle of a minor collection that began with some parts, which stood for a store.
-- todo: the places of objects that are still to be opened; held: of those that are kept for pinned ones; left: the births that are
-- still to be looked at; moved: the words of the objects that moved; taken: a block that was taken and is not used yet.
pub record Midway (start : HeapParts) (store : Store) (remembered : ℕ → ℕ → Bool) (now : Changing) (placing : Placing) (todo held left : List ℕ) (owes : Owes) (moved : Moved) (taken : List Extent) : Type 0 where
  pub words : HoldsMidWords start.setup.types start.setup.settings.page now.memory start.nursery store.kept store.husks placing.met placing.places placing.husks placing.waiting placing.name
  pub blocks : HasBlocks now.old_blocks now.memory (blocks_of start.setup.types (word_at now.memory.blocks) (home_in (with_changing start now)) (young_places placing.places) (old_places placing.places) placing.husks taken) placing.waiting
  pub headers : HoldsHeaders (word_at now.memory.blocks) (home_in (with_changing start now)) placing.places placing.husks
  pub young_flags : HoldsYoungFlags (word_at now.memory.blocks) (home_in (with_changing start now)) start.pins placing.places
  pub visited : HoldsVisited (word_at now.memory.blocks) start.phase start.setup.settings.page store.visited placing.places placing.waiting placing.name
  pub marked : HoldsRemembered start.setup.types start.setup.settings.card (word_at now.memory.blocks) now.remembered placing.places
  pub homes : HoldsHomes (home_in (with_changing start now)) placing.places placing.husks placing.name store.homes
  pub rise : RiseBetween 1 (map placing.name placing.places) start.next
  pub follows : Follows start.setup.types store remembered (pinned_places start) (word_at now.memory.blocks) placing.met placing.places placing.name placing.found todo held left owes
  pub slots : HoldsSlots now.slots placing.met placing.name start.setup.settings.roots store.slots
  pub pins : HoldsEntries start.pins (young_places placing.places) placing.name store.pinned
  pub registered_are : HoldsEntries now.registered placing.met placing.name store.registered
  pub chosen_are : HoldsEntries start.chosen placing.met placing.name store.chosen
  pub queues_are : HoldsQueues start.queues placing.met placing.name store.queues
  pub links_are : HoldsLinks now.links placing.met placing.name store.structs store.dead
  pub links_rise : KeysRise store.structs
  pub gray : AreAmong (old_places placing.places) now.gray
  pub moved_words : sum_by (words_at start.setup.types (word_at now.memory.blocks)) (old_places placing.places) ≡ settled_words store.kept store.settled + moved.words
  pub units : AreUnitsSwept start.phase start.setup.settings.sweep store.left placing.waiting
  pub carried : Carried start store remembered now.gray placing.met placing.places placing.name moved.objects
  pub made : IsMadeWith start.setup.settings now.memory start.nursery now.remembered now.old_blocks
