-- The parts of a heap as plain data.
use Rattle.std.specs.Prelude.{◌≡◌, ℕ, ◌*◌, Bool, false, List, [], replicate, map, Option, slice_index_or}
use Rattle.std.specs.Ordering.{nat_cmp}
use Rattle.std.specs.FinMap as map_of
use Rattle.type_table.specs.declared.info.TypeInfo.{TypeInfo}
use Rattle.type_table.specs.Table.{Table}
use Rattle.heap_space.specs.Memory.{Memory, fresh_memory}
use Rattle.heap_space.specs.Places.{word_at}
use Rattle.nursery_gaps.specs.Nursery.{Layout as NurseryLayout, unused}
use Rattle.text_model.specs.declared.line.Phase.{Phase}
use Rattle.text_model.specs.declared.line.Phase.TheVariants.{Scanning}
use Rattle.object_model.specs.declared.settings.Settings.{Settings}
use Rattle.object_model.specs.Setup.{Setup, small_words}
use Rattle.store_model.specs.Structs.{Structs}
use Rattle.old_space.specs.HasBlocks.{page_size, HasBlocks, greatest_small}
use Rattle.old_space.specs.declared.Old.{Old}
use Rattle.remember_cards.specs.Remembered.{Remembered, nothing_held}
use Rattle.parts_model.specs.NamedFinals.{NamedFinals, named_finals}

-- what a heap has that was started; objects go by their places
pub record HeapParts : Type 0 where
  pub setup : Setup
  pub memory : Memory
  pub nursery : NurseryLayout  -- the used ranges of the nursery, and its cursor
  pub old_blocks : Old  -- the blocks outside the nursery
  pub remembered : Remembered  -- the items that the next minor collection must look at
  pub shadows : map_of.FinMap nat_cmp ℕ  -- the homes that are reserved for objects of the nursery
  pub weaks : List ℕ  -- the weak objects
  pub registered : List (ℕ × ℕ)  -- objects and queues, in order of registration
  pub chosen : List (ℕ × ℕ)  -- what waits for its queue
  pub queues : Table (List ℕ)  -- the finalizer queues that are not empty
  pub finals : NamedFinals  -- the same objects by their births
  pub links : Structs  -- the C structures, and the dead queue
  pub gray : List ℕ  -- what is still to be visited
  pub slots : List ℕ  -- the place of the object in each root slot, 0 where it is empty
  pub pins : List (ℕ × ℕ)  -- the pinned objects, each with how many times it is pinned
  pub phase : Phase
  pub threshold : ℕ  -- the old words at which a major step is due
  pub next : ℕ  -- the next birth
  pub fresh : ℕ  -- the words that were born outside the nursery since the last minor collection
  pub gapped : Bool  -- whether some object was pinned when the last minor collection ended
  pub unsettled : ℕ  -- the words of the objects in the nursery
  pub old_words : ℕ  -- the words of the objects and husks outside it
  pub husk_list : Table ℕ  -- the words of the husks by their births

-- the parts of a heap that was just started, where these are its blocks outside the nursery
abbrev pub started_parts : Settings → Table TypeInfo → Old → HeapParts
started_parts settings types old_blocks = record {
  setup = record { settings = settings; types = types };
  memory = fresh_memory settings.nursery (settings.arena * settings.page);
  nursery = unused settings.nursery settings.pins;
  old_blocks = old_blocks;
  remembered = nothing_held settings.card;
  shadows = map_of.empty;
  weaks = [];
  registered = [];
  chosen = [];
  queues = [];
  finals = named_finals settings.queues [] [] [];
  links = record { structs = []; dead = [] };
  gray = [];
  slots = replicate settings.roots 0;
  pins = [];
  phase = Scanning;
  threshold = settings.minimum;
  next = 1;
  fresh = 0;
  gapped = false;
  unsettled = 0;
  old_words = 0;
  husk_list = [];
}

-- the parts of a heap that was just started: nothing is live outside the nursery
pub record AreFresh (parts : HeapParts) (settings : Settings) (types : Table TypeInfo) : Type 0 where
  pub old_blocks : Old
  pub are : parts ≡ started_parts settings types old_blocks
  pub empty : HasBlocks old_blocks (fresh_memory settings.nursery (settings.arena * settings.page)) [] []
  pub small : greatest_small old_blocks ≡ small_words settings
  pub page : page_size old_blocks ≡ settings.page

-- the word at each place of a heap
abbrev pub word_in : HeapParts → ℕ → ℕ
word_in heap = word_at heap.memory.blocks

-- the place of the object in a slot, 0 where it is empty or not there
abbrev pub place_in : HeapParts → ℕ → ℕ
place_in heap root = slice_index_or heap.slots root 0

-- the home that is reserved for the object at a place
abbrev pub home_in : HeapParts → ℕ → Option ℕ
home_in heap place = map_of.get heap.shadows place

-- the places of the pinned objects
abbrev pub pinned_places : HeapParts → List ℕ
pinned_places heap = map (λ entry. entry.0) heap.pins
