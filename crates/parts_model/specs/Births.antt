-- Births: what they ask of the parts of a heap, and what they make of them.
use Rattle.std.specs.Prelude.{◌≡◌, ℕ, ◌+◌, ◌^◌, ◌<◌, ◌≤◌, Bool, if◌then◌else◌, IsTrue, List, ◌∷◌, length, slice_set}
use Rattle.type_table.specs.declared.info.TypeInfo.{TypeInfo}
use Rattle.type_table.specs.Words.{words_in}
use Rattle.heap_space.specs.Places.{with_run, lies_in_one}
use Rattle.heap_space.specs.Memory.{Memory}
use Rattle.heap_space.specs.Extents.{Extent, KeepsWords, KeepsOutside}
use Rattle.nursery_gaps.specs.Nursery.{Layout as NurseryLayout, FitsLowest, HandsOut, IsLaidOut}
use Rattle.object_header.specs.Words.{with_flag}
use Rattle.object_header.specs.declared.flags.Flag.TheVariants.{Track, HasCards}
use Rattle.object_view.specs.Births.{born_words}
use Rattle.old_space.specs.HasBlocks.{HasBlocks, Stands, greatest_small, page_size}
use Rattle.old_space.specs.Calls.{IsElsewhere}
use Rattle.old_space.specs.declared.Old.{Old}
use Rattle.parts_model.specs.Parts.{HeapParts}
use Rattle.parts_model.specs.Headers.{keeps_cards}

-- the parts with a new object at a place, and in a slot: its header, so many items if it is an array, and its target if it is weak
abbrev pub with_newborn : HeapParts → ℕ → ℕ → ℕ → TypeInfo → ℕ → ℕ → HeapParts
with_newborn heap place header root info items target = record heap {
  memory = record heap.memory { blocks = with_run heap.memory.blocks place (born_words info.shape header heap.next items target) };
  slots = slice_set heap.slots root place;
  next = heap.next + 1;
}

-- there is room for a birth at the place
pub record HasRoom (heap : HeapParts) (place root : ℕ) (info : TypeInfo) (items : ℕ) : Type 0 where
  pub slot : root < length heap.slots
  pub items_few : items ≤ 16777216
  pub words : IsTrue (lies_in_one heap.memory.blocks place (words_in info.shape items))
  pub next_small : heap.next < 2 ^ 63

-- a birth in the nursery can be tried
pub record HasNurseryRoom (heap : HeapParts) (root : ℕ) (info : TypeInfo) (items : ℕ) : Type 0 where
  pub slot : root < length heap.slots
  pub items_few : items ≤ 16777216
  pub whole : IsTrue (lies_in_one heap.memory.blocks 1 heap.nursery.words)
  pub least : 1 ≤ heap.nursery.cursor
  pub next_small : heap.next < 2 ^ 63
  pub unsettled_small : heap.unsettled + words_in info.shape items < 2 ^ 63

-- an object is born at the lowest place that has room in the nursery
pub record BearsYoung (old new : HeapParts) (root type_id : ℕ) (info : TypeInfo) (items target : ℕ) : Type 0 where
  pub place : ℕ
  pub nursery : NurseryLayout
  pub lowest : FitsLowest old.nursery (words_in info.shape items) place
  pub hands : HandsOut old.nursery (words_in info.shape items) place nursery
  pub laid : IsLaidOut nursery
  pub is : new ≡ record (with_newborn old place type_id root info items target) { nursery = nursery; unsettled = old.unsettled + words_in info.shape items }

-- the parts whose blocks outside the nursery, and whose memory, are these
abbrev pub with_old_blocks : HeapParts → Old → Memory → HeapParts
with_old_blocks heap old_blocks memory = record heap { old_blocks = old_blocks; memory = memory }

-- No word of a live block, and none of the nursery, changed, when a block was asked for outside the nursery.
pub record KeepsLive (old new : HeapParts) : Type 0 where
  pub only : new ≡ with_old_blocks old new.old_blocks new.memory
  pub kept : (live : List Extent) (waiting : List ℕ) → HasBlocks old.old_blocks old.memory live waiting → KeepsWords old.memory new.memory live
  pub outside : KeepsOutside 4294967296 9223372036854775808 old.memory new.memory
  pub arenas : new.memory.arena_words ≡ old.memory.arena_words
  pub small : greatest_small new.old_blocks ≡ greatest_small old.old_blocks
  pub page : page_size new.old_blocks ≡ page_size old.old_blocks

-- a block of so many words at the place is live from now on, in a unit that does not wait, and nothing else changed
pub record TakesBlock (old new : HeapParts) (n place : ℕ) : Type 0 where
  pub keeps : KeepsLive old new
  pub taken : (live : List Extent) (waiting : List ℕ) → HasBlocks old.old_blocks old.memory live waiting →
      HasBlocks new.old_blocks new.memory ((place, n) ∷ live) waiting
  pub elsewhere : (live : List Extent) (waiting : List ℕ) → HasBlocks old.old_blocks old.memory live waiting → IsElsewhere new.old_blocks waiting place

-- no block more is live, and nothing else changed
pub record TakesNone (old new : HeapParts) : Type 0 where
  pub keeps : KeepsLive old new
  pub same : (live : List Extent) (waiting : List ℕ) → HasBlocks old.old_blocks old.memory live waiting →
      HasBlocks new.old_blocks new.memory live waiting

-- the header of an object that is born outside the nursery: all of it counts as written when it is
abbrev pub old_header : ℕ → Bool → ℕ
old_header type_id cards = if cards then with_flag (with_flag type_id Track) HasCards else with_flag type_id Track

-- an object is born outside the nursery, in a block that was taken for it
pub record BearsOld (old new : HeapParts) (root type_id : ℕ) (info : TypeInfo) (items target : ℕ) : Type 0 where
  pub middle : HeapParts
  pub place : ℕ
  pub takes : TakesBlock old middle (words_in info.shape items) place
  pub is : new ≡ record (with_newborn middle place (old_header type_id (keeps_cards old.setup.settings.card info.shape items)) root info items target) {
    old_words = middle.old_words + words_in info.shape items;
    fresh = middle.fresh + words_in info.shape items;
  }

-- a birth outside the nursery can be counted
pub record HasOldRoom (heap : HeapParts) (root : ℕ) (info : TypeInfo) (items : ℕ) : Type 0 where
  pub slot : root < length heap.slots
  pub items_few : items ≤ 16777216
  pub stands : Stands heap.old_blocks heap.memory
  pub next_small : heap.next < 2 ^ 63
  pub old_small : heap.old_words + words_in info.shape items < 2 ^ 63
  pub fresh_small : heap.fresh + words_in info.shape items < 2 ^ 63
