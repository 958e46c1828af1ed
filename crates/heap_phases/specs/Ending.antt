-- The end of marking, a part at a time.
use Rattle.std.specs.Prelude.{◌≡◌, ℕ, Bool, ◌+◌, ◌↔◌, IsTrue, List, [], ◌++◌, map, filter, not}
use Rattle.std.specs.List.Sorted.{IsPermutation, IsNonDecreasing}
use Rattle.type_table.specs.declared.info.TypeInfo.{TypeInfo}
use Rattle.type_table.specs.Table.{Table, KeysRise}
use Rattle.heap_space.specs.Places.{has, word_at}
use Rattle.heap_space.specs.Memory.{Memory}
use Rattle.heap_space.specs.Extents.{Extent, Each, KeepsWords, KeepsOutside}
use Rattle.size_pages.specs.Headers.{RiseByPlace}
use Rattle.object_header.specs.Words.{survives_sweep}
use Rattle.old_space.specs.Calls.{BeginsSweep}
use Rattle.old_space.specs.HasBlocks.{HasBlocks, KeepsSizes}
use Rattle.object_model.specs.Sets.{is_in}
use Rattle.object_model.specs.ObjectWords.{info_at}
use Rattle.text_model.specs.declared.line.Line.{Line}
use Rattle.text_model.specs.declared.line.Line.TheVariants.{Cleared, Kept, LinkCut, Queued}
use Rattle.text_model.specs.declared.line.Phase.TheVariants.{Marking, Sweeping}
use Rattle.store_model.specs.Store.{Store}
use Rattle.store_model.specs.Links.{cut_links, link_ends}
use Rattle.store_model.specs.Marking.{IsMarked, EndOfMarking}
use Rattle.remember_cards.specs.Remembered.{without_dead}
use Rattle.finalizer_order.specs.declared.entry.Entry.{Entry}
use Rattle.finalizer_order.specs.Finalizers.{placed}
use Rattle.finalizer_order.specs.Choosing.{CanChoose, IsChosen, Keeps}
use Rattle.weak_lists.specs.Cleared.{TellsInOrder, births_losing}
use Rattle.weak_lists.specs.Targets.{ChangesTargets, is_unvisited, kept_target}
use Rattle.heap_parts.specs.Parts.{HeapParts, word_in}
use Rattle.object_view.specs.Views.{HasObject}
use Rattle.heap_parts.specs.StandsFor.{PartsStandFor}
use Rattle.heap_parts.specs.Collects.{AreAllPinned}

-- the parts stand for some store in which all was visited that will be
pub record CanEnd (heap : HeapParts) : Type 0 where
  pub store : Store
  pub stands : PartsStandFor heap store
  pub pinned : AreAllPinned store
  pub marked : IsMarked store
  pub marking : heap.phase ≡ Marking
  pub gray : heap.gray ≡ []

-- marking ends, for every such store
pub record EndsMajor (old new : HeapParts) (before after : List Line) : Type 0 where
  pub setup : new.setup ≡ old.setup
  pub lines : List Line
  pub appended : after ≡ before ++ lines
  pub ends : (store : Store) → PartsStandFor old store → AreAllPinned store → IsMarked store
      → (later : Store) × EndOfMarking old.setup.settings store lines later × PartsStandFor new later

-- the heap with this memory
abbrev pub with_memory : HeapParts → Memory → HeapParts
with_memory heap memory = record heap { memory = memory }

-- weak objects lost the targets that were not visited, and are told
pub record ClearsWeaks (old new : HeapParts) (before after : List Line) : Type 0 where
  pub cleared : List ℕ
  pub targets : ChangesTargets old.setup.types (kept_target old.nursery.words (word_in old)) old.memory new.memory old.weaks
  pub told : TellsInOrder (births_losing old.setup.types (word_in old) (is_unvisited old.nursery.words (word_in old)) old.weaks) [] cleared
  pub lines : after ≡ before ++ map (λ b. Cleared b) cleared
  pub rest : new ≡ with_memory old new.memory

-- the first word of each block can be read
abbrev pub AreReadable : Memory → List Extent → Type 0
AreReadable m blocks = Each (λ x. IsTrue (has m.blocks x.0)) blocks

-- whether the object in a block was not visited
abbrev pub is_dead_in : Memory → Extent → Bool
is_dead_in m x = not (survives_sweep (word_at m.blocks x.0))

-- the birth of the object in a block, and whether its type has a destructor
abbrev pub birth_in : Memory → Extent → ℕ
birth_in m x = word_at m.blocks (x.0 + 1)

abbrev pub is_destroyed : Table TypeInfo → Memory → Extent → Bool
is_destroyed types m x = (info_at types (word_at m.blocks) x.0).destructor

-- the birth of the object in a block, and the words of the block
abbrev pub husk_of : Memory → Extent → ℕ × ℕ
husk_of m x = (birth_in m x, x.1)

-- these are the live blocks whose objects were not visited, by rising place
pub record AreDead (m : Memory) (live blocks : List Extent) : Type 0 where
  pub just : IsPermutation (filter (is_dead_in m) live) blocks
  pub rising : RiseByPlace blocks

-- the places of blocks
abbrev pub places_in : List Extent → List ℕ
places_in blocks = map (λ x. x.0) blocks

-- the births of the objects in blocks whose type has a destructor, in rising order
pub record AreDestroyed (types : Table TypeInfo) (m : Memory) (blocks : List Extent) (births : List ℕ) : Type 0 where
  pub just : IsPermutation (map (birth_in m) (filter (is_destroyed types m) blocks)) births
  pub rising : IsNonDecreasing births

-- the births of the objects in blocks with their words, listed by rising birth, where no birth is that of two objects
pub record AreHusks (m : Memory) (blocks : List Extent) (husks : Table ℕ) : Type 0 where
  pub are : (listed : Table ℕ) → KeysRise listed → IsPermutation (map (husk_of m) blocks) listed → husks ≡ listed

-- the heap where these places are of no object any more
abbrev pub without_places : HeapParts → List ℕ → HeapParts
without_places heap dead = record heap {
  remembered = without_dead (λ p. is_in p dead) heap.remembered;
  weaks = filter (λ p. not (is_in p dead)) heap.weaks;
  links = cut_links (λ p. is_in p dead) heap.links;
}

-- the lines of the links that end
abbrev pub cut_lines : HeapParts → List ℕ → List Line
cut_lines heap dead = map (λ end. LinkCut end) (link_ends (λ p. is_in p dead) heap.links.structs)

-- the blocks of condemned objects become husks, and all units wait to be swept
pub record BecomesHusks (old new : HeapParts) (blocks : List Extent) : Type 0 where
  pub husks : AreHusks old.memory blocks new.husk_list
  pub begun : (live : List Extent) → HasBlocks old.old_blocks old.memory live [] → BeginsSweep new.old_blocks new.memory live × KeepsWords old.memory new.memory live
  pub outside : KeepsOutside 4294967296 9223372036854775808 old.memory new.memory
  pub arena_words : new.memory.arena_words ≡ old.memory.arena_words
  pub sizes : KeepsSizes old.old_blocks new.old_blocks
  pub rest : new ≡ record old { memory = new.memory; old_blocks = new.old_blocks; husk_list = new.husk_list; phase = Sweeping }

-- each block is that of a whole object
abbrev pub HoldObjects : Memory → Table TypeInfo → List Extent → Type 0
HoldObjects m types blocks = Each (λ x. HasObject m types x.0) blocks

-- the line of an object that enters a queue
abbrev pub queued_line : Memory → ℕ × ℕ → Line
queued_line m entry = Queued (word_at m.blocks (entry.0 + 1)) entry.1

-- the places of the registered objects
abbrev pub registered_places : HeapParts → List ℕ
registered_places heap = map (λ entry. entry.0) heap.registered

-- the registered objects, and what they lead to, are whole, and no pass over finalizers has marked them
abbrev pub CanChooseIn : HeapParts → Type 0
CanChooseIn heap = CanChoose heap.memory heap.setup.types heap.nursery.words (registered_places heap)

-- an entry by its birth
abbrev pub named_entry : Entry → ℕ × ℕ
named_entry entry = (entry.birth, entry.queue)

-- The right ones of the dying objects are chosen, and what dying objects lead to is kept and told.
pub record ChoosesFinals (old new : HeapParts) (before after : List Line) : Type 0 where
  pub taken : ℕ → Bool
  pub tells : (x : ℕ) → IsTrue (taken x) ↔ IsChosen old.setup.types old.nursery.words (word_in old) (registered_places old) x
  pub births : List ℕ
  pub keeps : Keeps old.setup.types old.nursery.words (registered_places old) old.memory new.memory [] births
  pub lines : after ≡ before ++ map (λ b. Kept b) births
  pub entries : List Entry
  pub placed_are : old.registered ≡ placed entries
  pub named_are : old.finals.registered ≡ map named_entry entries
  pub finals : new.finals ≡ record old.finals {
    registered = map named_entry (filter (λ entry. not (taken entry.place)) entries);
    chosen = old.finals.chosen ++ map named_entry (filter (λ entry. taken entry.place) entries);
  }
  pub rest : new ≡ record old {
    memory = new.memory;
    registered = filter (λ entry. not (taken entry.0)) old.registered;
    chosen = old.chosen ++ filter (λ entry. taken entry.0) old.registered;
    finals = new.finals;
  }
