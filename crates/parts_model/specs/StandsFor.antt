-- Which store the parts of a heap stand for. Each letter of that is over just the parts of heap and store that it names.
use Rattle.std.specs.Prelude.{◌≡◌, ℕ, ◌+◌, ◌*◌, ◌^◌, ◌<◌, ◌≤◌, Bool, IsTrue, is_some, List, [], Option, Some, map, filter}
use Rattle.std.specs.List.Sorted.{IsPermutation}
use Rattle.type_table.specs.declared.info.TypeInfo.{TypeInfo}
use Rattle.type_table.specs.Table.{Table, KeysRise, value_at}
use Rattle.heap_space.specs.Places.{word_at}
use Rattle.heap_space.specs.Memory.{Memory}
use Rattle.heap_space.specs.Extents.{Extent}
use Rattle.nursery_gaps.specs.Nursery.{Layout as NurseryLayout}
use Rattle.object_header.specs.Words.{has_flag}
use Rattle.object_header.specs.declared.flags.Flag.TheVariants.{Visited, HasShadow, Pinned}
use Rattle.text_model.specs.declared.line.Phase.{Phase}
use Rattle.object_model.specs.declared.settings.Settings.{Settings}
use Rattle.object_model.specs.SettingRanges.{AreInRange}
use Rattle.object_model.specs.Sets.{is_in}
use Rattle.object_model.specs.Setup.{small_words}
use Rattle.object_model.specs.Object.{Object}
use Rattle.store_model.specs.Store.{Store, unsettled_words, settled_words, husk_words}
use Rattle.object_model.specs.Holds.{HoldsObjects}
use Rattle.store_model.specs.Sound.{IsSound}
use Rattle.store_model.specs.MarkingOrder.{IsInOrder}
use Rattle.old_space.specs.HasBlocks.{page_size, greatest_small}
use Rattle.old_space.specs.declared.Old.{Old}
use Rattle.remember_cards.specs.Remembered.{Remembered, held_places, is_held_of}
use Rattle.parts_model.specs.NamedFinals.{NamedFinals, named_finals}
use Rattle.parts_model.specs.Parts.{HeapParts, word_in, home_in}
use Rattle.parts_model.specs.Places.{young_places, old_places, AreAmong, AreWhole, OfFirsts, RiseBetween, is_weak_at}
use Rattle.parts_model.specs.Nursery.{HoldsNursery, IsUngapped}
use Rattle.parts_model.specs.OldSpace.{HoldsBlocks, HoldsHusks, AreUnitsSwept, AreReservedForYoung, AreHomes, reserved_homes}
use Rattle.parts_model.specs.Headers.{IsSettledHeader, IsHuskHeader, IsShadowHeader, IsYoungHeader, is_marked, IsCarded}
use Rattle.remember_cards.specs.Tracking.{IsTracked}
use Rattle.parts_model.specs.Lists.{HoldsSlots, HoldsEntries, HoldsQueues, HoldsLinks}
use Rattle.parts_model.specs.Order.{OrderOf, IsGrayOf, IsInOrderButYoung}

-- The objects stand whole at their places, those of the nursery in its used ranges. Each block outside the nursery holds a
-- settled object or a husk, or is reserved as the home of an object of the nursery, and has just that object's words.
pub record HoldsWords (types : Table TypeInfo) (page : ℕ) (memory : Memory) (nursery : NurseryLayout) (old_blocks : Old) (home : ℕ → Option ℕ) (weaks : List ℕ) (spare : List Extent)
    (kept : List Object) (stored_husks : List (ℕ × ℕ)) (places husks waiting : List ℕ) (name : ℕ → ℕ) : Type 0 where
  pub objects : HoldsObjects types (word_at memory.blocks) places places name kept
  pub whole : AreWhole memory types places
  pub weak : IsPermutation (filter (is_weak_at types (word_at memory.blocks)) places) weaks
  pub young : HoldsNursery nursery memory types (word_at memory.blocks) (young_places places)
  pub blocks : HoldsBlocks old_blocks memory types (word_at memory.blocks) home (young_places places) (old_places places) husks spare waiting
  pub husk : HoldsHusks page types (word_at memory.blocks) name husks waiting stored_husks

-- the kinds of first words
pub record HoldsHeaders (word : ℕ → ℕ) (home : ℕ → Option ℕ) (places husks : List ℕ) : Type 0 where
  pub settled : OfFirsts (λ p head. IsSettledHeader head) (old_places places) word
  pub husk : OfFirsts (λ p head. IsHuskHeader head) husks word
  pub shadow : OfFirsts (λ p head. IsShadowHeader head) (reserved_homes home (young_places places)) word
  pub young : OfFirsts (λ p head. IsYoungHeader head) (young_places places) word

-- the flags of objects of the nursery that tell of a pin and of a home
pub record HoldsYoungFlags (word : ℕ → ℕ) (home : ℕ → Option ℕ) (pins : List (ℕ × ℕ)) (places : List ℕ) : Type 0 where
  pub pinned : OfFirsts (λ p head. has_flag head Pinned ≡ is_in p (map (λ entry. entry.0) pins)) (young_places places) word
  pub has_shadow : OfFirsts (λ p head. has_flag head HasShadow ≡ is_some (home p)) (young_places places) word

-- the flag of settled objects that tells of this cycle
abbrev pub HoldsVisited : (ℕ → ℕ) → Phase → ℕ → List ℕ → List ℕ → List ℕ → (ℕ → ℕ) → Type 0
HoldsVisited word phase page visited places waiting name =
    OfFirsts (λ p head. has_flag head Visited ≡ is_marked phase visited name page waiting p) (old_places places) word

-- the settled objects, and the births of all
pub record HoldsBirths (places : List ℕ) (name : ℕ → ℕ) (settled : List ℕ) (next : ℕ) : Type 0 where
  pub settled_are : settled ≡ map name (old_places places)
  pub rise : RiseBetween 1 (map name places) next
  pub next_high : next < 2 ^ 63

-- what is remembered belongs to settled objects, whose flags tell of it
pub record HoldsRemembered (types : Table TypeInfo) (card : ℕ) (word : ℕ → ℕ) (remembered : Remembered) (places : List ℕ) : Type 0 where
  pub there : AreAmong (old_places places) (held_places remembered)
  pub tracked : OfFirsts (IsTracked remembered) (old_places places) word
  pub carded : (p : ℕ) → IsTrue (is_in p (old_places places)) → IsCarded types card word p

-- the homes that were told and those that are reserved
pub record HoldsHomes (home : ℕ → Option ℕ) (places husks : List ℕ) (name : ℕ → ℕ) (homes : Table ℕ) : Type 0 where
  pub told : AreHomes home (young_places places) (old_places places) husks name homes
  pub reserved : AreReservedForYoung home (young_places places)
  pub known : (p at : ℕ) → home p ≡ Some at → value_at homes (name p) ≡ Some at

-- registered, chosen and queued objects, which the heap knows by their births too, and so many queues
pub record HoldsFinalizers (finals : NamedFinals) (queue_count : ℕ) (registered chosen : List (ℕ × ℕ)) (queues : Table (List ℕ)) (places : List ℕ) (name : ℕ → ℕ)
    (stored_registered stored_chosen : List (ℕ × ℕ)) (stored_queues : Table (List ℕ)) : Type 0 where
  pub registered_are : HoldsEntries registered places name stored_registered
  pub chosen_are : HoldsEntries chosen places name stored_chosen
  pub queues_are : HoldsQueues queues places name stored_queues
  pub births_are : finals ≡ named_finals queue_count stored_registered stored_chosen stored_queues

-- the numbers of words
pub record HoldsSums (unsettled old fresh limit : ℕ) (kept : List Object) (settled : List ℕ) (husks : List (ℕ × ℕ)) : Type 0 where
  pub unsettled_are : unsettled ≡ unsettled_words kept settled
  pub old_are : old ≡ settled_words kept settled + husk_words husks
  pub fresh_old : fresh ≤ old
  pub within : unsettled + old ≤ limit

-- the husks with their words, by rising birth
pub record HoldsHuskList (listed stored : Table ℕ) : Type 0 where
  pub are : stored ≡ listed
  pub rise : KeysRise listed

-- what heap and store count alike
pub record HoldsCounts (minimum next threshold fresh : ℕ) (phase : Phase) (gapped : Bool)
    (stored_next stored_threshold stored_fresh : ℕ) (stored_phase : Phase) (stored_gapped : Bool) : Type 0 where
  pub next_is : stored_next ≡ next
  pub threshold_is : stored_threshold ≡ threshold
  pub threshold_low : minimum ≤ threshold
  pub threshold_high : threshold < 2 ^ 32
  pub fresh_is : stored_fresh ≡ fresh
  pub phase_is : stored_phase ≡ phase
  pub gapped_is : stored_gapped ≡ gapped

-- the numbers that the parts were made with
pub record IsMadeWith (settings : Settings) (memory : Memory) (nursery : NurseryLayout) (remembered : Remembered) (old_blocks : Old) : Type 0 where
  pub ranges : AreInRange settings
  pub words : nursery.words ≡ settings.nursery
  pub pins : nursery.pins ≡ settings.pins
  pub card : remembered.card ≡ settings.card
  pub arena : memory.arena_words ≡ settings.arena * settings.page
  pub small : greatest_small old_blocks ≡ small_words settings
  pub page : page_size old_blocks ≡ settings.page

-- The parts of a heap stand for a store: there are places of its objects, in order of birth, each named by a birth, places of
-- its husks, and the units that wait. What is told of marking is given, and which blocks were taken and hold nothing yet.
pub record PartsStandBy (order_of : OrderOf) (spare : List Extent) (heap : HeapParts) (store : Store) : Type 0 where
  pub places : List ℕ
  pub name : ℕ → ℕ
  pub husks : List ℕ
  pub waiting : List ℕ
  pub words : HoldsWords heap.setup.types heap.setup.settings.page heap.memory heap.nursery heap.old_blocks (home_in heap) heap.weaks spare store.kept store.husks places husks waiting name
  pub headers : HoldsHeaders (word_in heap) (home_in heap) places husks
  pub young_flags : HoldsYoungFlags (word_in heap) (home_in heap) heap.pins places
  pub visited : HoldsVisited (word_in heap) heap.phase heap.setup.settings.page store.visited places waiting name
  pub remembered : HoldsRemembered heap.setup.types heap.setup.settings.card (word_in heap) heap.remembered places
  pub births : HoldsBirths places name store.settled heap.next
  pub slots : HoldsSlots heap.slots places name heap.setup.settings.roots store.slots
  pub pins : HoldsEntries heap.pins (young_places places) name store.pinned
  pub finalizers : HoldsFinalizers heap.finals heap.setup.settings.queues heap.registered heap.chosen heap.queues places name store.registered store.chosen store.queues
  pub links : HoldsLinks heap.links places name store.structs store.dead
  pub homes : HoldsHomes (home_in heap) places husks name store.homes
  pub gray : AreAmong (old_places places) heap.gray
  pub gray_phase : IsGrayOf heap.phase heap.gray
  pub sums : HoldsSums heap.unsettled heap.old_words heap.fresh heap.setup.settings.limit store.kept store.settled store.husks
  pub husk_list : HoldsHuskList heap.husk_list store.husks
  pub counts : HoldsCounts heap.setup.settings.minimum heap.next heap.threshold heap.fresh heap.phase heap.gapped
      store.next store.threshold store.fresh store.phase store.gapped
  pub ungapped : IsUngapped heap.gapped heap.nursery
  pub units : AreUnitsSwept heap.phase heap.setup.settings.sweep store.left waiting
  pub made : IsMadeWith heap.setup.settings heap.memory heap.nursery heap.remembered heap.old_blocks
  pub order : order_of store.kept store.settled store.visited (map name heap.gray) (is_held_of heap.remembered name) store.unreached
  pub sound : IsSound heap.setup.settings store

-- the parts of a heap stand for a store, with marking in order
abbrev pub PartsStandFor : HeapParts → Store → Type 0
PartsStandFor heap store = PartsStandBy IsInOrder [] heap store

-- the same, but that items which refer to unsettled objects may be forgotten
abbrev pub PartsStandButYoung : HeapParts → Store → Type 0
PartsStandButYoung heap store = PartsStandBy IsInOrderButYoung [] heap store
