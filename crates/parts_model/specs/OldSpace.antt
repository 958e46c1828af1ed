-- The blocks outside the nursery: settled objects, husks, and homes that are reserved for objects of the nursery.
use Rattle.std.specs.Prelude.{◌≡◌, ℕ, ◌+◌, ◌*◌, ◌<◌, ◌≤◌, Bool, true, IsTrue, ◌⊎◌, List, [], ◌++◌, map, filter_map, option_map, Option, Some, length, nat_lt, if◌then◌else◌}
use Rattle.type_table.specs.declared.info.TypeInfo.{TypeInfo}
use Rattle.type_table.specs.Table.{Table, value_at}
use Rattle.heap_space.specs.Memory.{Memory}
use Rattle.heap_space.specs.Extents.{Extent}
use Rattle.text_model.specs.declared.line.Phase.{Phase}
use Rattle.text_model.specs.declared.line.Phase.TheVariants.{Sweeping}
use Rattle.object_model.specs.Sets.{is_in}
use Rattle.object_model.specs.ObjectWords.{words_at}
use Rattle.old_space.specs.HasBlocks.{HasBlocks}
use Rattle.size_pages.specs.Calls.{page_of}
use Rattle.old_space.specs.declared.Old.{Old}
use Rattle.parts_model.specs.Places.{block_at}

-- the block that is reserved for the object at a place, if one is: it has just the object's words
abbrev pub reserved_block : Table TypeInfo → (ℕ → ℕ) → (ℕ → Option ℕ) → ℕ → Option Extent
reserved_block types word home place = option_map (λ at. (at, words_at types word place)) (home place)

-- the blocks that are reserved for objects at these places
abbrev pub reserved_blocks : Table TypeInfo → (ℕ → ℕ) → (ℕ → Option ℕ) → List ℕ → List Extent
reserved_blocks types word home young = filter_map (reserved_block types word home) young

-- the homes that are reserved for them
abbrev pub reserved_homes : (ℕ → Option ℕ) → List ℕ → List ℕ
reserved_homes home young = filter_map home young

-- the blocks of settled objects and of husks, the reserved ones, and those that were taken and hold nothing yet
abbrev pub blocks_of : Table TypeInfo → (ℕ → ℕ) → (ℕ → Option ℕ) → List ℕ → List ℕ → List ℕ → List Extent → List Extent
blocks_of types word home young settled husks spare =
    map (block_at types word) settled ++ (map (block_at types word) husks ++ (reserved_blocks types word home young ++ spare))

-- just these blocks are live, and just these units wait
abbrev pub HoldsBlocks : Old → Memory → Table TypeInfo → (ℕ → ℕ) → (ℕ → Option ℕ) → List ℕ → List ℕ → List ℕ → List Extent → List ℕ → Type 0
HoldsBlocks old_blocks memory types word home young settled husks spare waiting =
    HasBlocks old_blocks memory (blocks_of types word home young settled husks spare) waiting

-- the unit of the block at a place, where pages have so many words: its page, or the large block itself
abbrev pub unit_at : ℕ → ℕ → ℕ
unit_at page place = if nat_lt place 1099511627776 then page_of page place else place

-- whether the block at a place lies in a unit that waits
abbrev pub is_waiting : ℕ → List ℕ → ℕ → Bool
is_waiting page waiting place = is_in (unit_at page place) waiting

-- the birth and the words of a husk
abbrev pub husk_at : Table TypeInfo → (ℕ → ℕ) → ℕ → ℕ × ℕ
husk_at types word place = (word (place + 1), words_at types word place)

-- the husks stand at these places, all in units that wait
pub record HoldsHusks (page : ℕ) (types : Table TypeInfo) (word name : ℕ → ℕ) (husks waiting : List ℕ) (stored : List (ℕ × ℕ)) : Type 0 where
  pub reads : stored ≡ map (husk_at types word) husks
  pub named : (p : ℕ) → IsTrue (is_in p husks) → name p ≡ word (p + 1)
  pub waits : (p : ℕ) → IsTrue (is_in p husks) → is_waiting page waiting p ≡ true

-- units wait only in sweeping, and then no more than the steps that are left can sweep
abbrev pub AreUnitsSwept : Phase → ℕ → ℕ → List ℕ → Type 0
AreUnitsSwept Sweeping sweep left waiting = (length waiting ≤ left * sweep) × (0 < left)
AreUnitsSwept phase sweep left waiting = waiting ≡ []

-- homes are reserved only for objects of the nursery
abbrev pub AreReservedForYoung : (ℕ → Option ℕ) → List ℕ → Type 0
AreReservedForYoung home young = (p at : ℕ) → home p ≡ Some at → IsTrue (is_in p young)

-- the home of a birth: the place of that settled object or husk, or what is reserved for that object of the nursery
pub record IsReservedFor (home : ℕ → Option ℕ) (young : List ℕ) (name : ℕ → ℕ) (birth at : ℕ) : Type 0 where
  pub place : ℕ
  pub there : IsTrue (is_in place young)
  pub named : name place ≡ birth
  pub reserved : home place ≡ Some at

pub record IsPlaceOf (settled husks : List ℕ) (name : ℕ → ℕ) (birth at : ℕ) : Type 0 where
  pub there : IsTrue (is_in at (settled ++ husks))
  pub named : name at ≡ birth

-- each home that was told is one
abbrev pub AreHomes : (ℕ → Option ℕ) → List ℕ → List ℕ → List ℕ → (ℕ → ℕ) → Table ℕ → Type 0
AreHomes home young settled husks name homes =
    (birth at : ℕ) → value_at homes birth ≡ Some at → IsPlaceOf settled husks name birth at ⊎ IsReservedFor home young name birth at
