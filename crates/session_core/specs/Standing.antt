-- Where a session and its heap stand, and what an item does there.
use Rattle.std.specs.Prelude.{◌≡◌, ℕ, Bool, true, false, List, [], ◌∷◌, ◌++◌, Option, Some, None, is_none, option_map, Result, Ok, Err, IsTrue, ◌⊎◌}
use Rattle.type_table.specs.declared.info.TypeInfo.{TypeInfo}
use Rattle.type_table.specs.Table.{Table, with_value}
use Rattle.text_model.specs.declared.item.Item.{Item}
use Rattle.text_model.specs.declared.item.Item.TheVariants.{Command as CommandItem}
use Rattle.text_model.specs.declared.item.Reason.{Reason}
use Rattle.text_model.specs.declared.line.Line.{Line}
use Rattle.object_model.specs.declared.settings.Settings.{Settings}
use Rattle.object_model.specs.Setup.{Setup}
use Rattle.store_model.specs.Store.{Store, empty_store}
use Rattle.store_model.specs.Progress.{Progress, with_setting}
use Rattle.store_model.specs.Look.{Look}
use Rattle.store_model.specs.Refusal.{refusal, refusal_seen}
use Rattle.store_model.specs.Transcript.{Group, ItemDoes, ItemExceeds, group_lines}
use Rattle.heap_parts.specs.Parts.{HeapParts}
use Rattle.heap_core.specs.declared.fault.HeapFault.{HeapFault}
use Rattle.heap_core.specs.declared.fault.HeapFault.TheVariants.{Spent, OutOfMemory as NoMemory, HeapLimit as OverLimit}
use Rattle.heap_core.specs.Heap.{HeapSeen, closed_heap, heap_of, StandsFor}
use Rattle.heap_core.specs.Commands.{nothing_told, told_by, setup_in}
use Rattle.heap_core.specs.Found.{found_in}
use Rattle.session_core.specs.declared.session.RunFault.{RunFault}
use Rattle.session_core.specs.declared.session.RunFault.TheVariants.{Malformed, HeapLimit, OutOfMemory}
use Rattle.session_core.specs.Blocks.{LeavesOff}
use Rattle.session_core.specs.Seen.{SessionSeen}

-- A heap that was started with these settings and is not spent.
pub record IsStarted (settings : Settings) (heap : HeapSeen) : Type 0 where
  pub parts : HeapParts
  pub is : heap ≡ heap_of parts
  pub settings_are : parts.setup.settings ≡ settings

-- The session has the types exactly while the heap is closed, and then the heap has them, with the session's settings.
abbrev pub HasHeap : Option (Table TypeInfo) → Settings → HeapSeen → Type 0
HasHeap (Some types) settings heap = heap ≡ closed_heap
HasHeap None settings heap = IsStarted settings heap

abbrev pub table_of : Option HeapParts → Table TypeInfo
table_of None = []
table_of (Some parts) = parts.setup.types

-- the types, which are with the session or with the heap
abbrev pub types_in : Option (Table TypeInfo) → HeapSeen → Table TypeInfo
types_in (Some types) heap = types
types_in None heap = table_of heap.parts

-- the settings and types that the script gave
abbrev pub setup_of : SessionSeen → HeapSeen → Setup
setup_of session heap = record { settings = session.settings; types = types_in session.types heap }

-- the store before the first command is empty, and behind it one that the heap stands for
abbrev pub HasStore : Option (Table TypeInfo) → Settings → HeapSeen → Store → Type 0
HasStore (Some types) settings heap store = store ≡ empty_store settings
HasStore None settings heap store = StandsFor heap store

-- The session and its heap stand where the script has come to.
pub record StandsAt (session : SessionSeen) (heap : HeapSeen) (at : Progress) : Type 0 where
  pub has_heap : HasHeap session.types session.settings heap
  pub setup : at.setup ≡ setup_of session heap
  pub names : at.set_names ≡ session.names
  pub late : at.late ≡ is_none session.types
  pub store : HasStore session.types session.settings heap at.store

-- they stand where some script has come to
pub record IsPlaced (session : SessionSeen) (heap : HeapSeen) : Type 0 where
  pub at : Progress
  pub stands : StandsAt session heap at

-- the settings and types of a heap: the script's, where a command came, and none before
abbrev pub setup_begun : Bool → Setup → Option Setup
setup_begun true setup = Some setup
setup_begun false setup = None

-- The heap stands where the script has come to: for the store that the commands left, with the script's settings and types.
pub record HeapStandsAt (heap : HeapSeen) (at : Progress) : Type 0 where
  pub store : StandsFor heap at.store
  pub setup : setup_in heap ≡ setup_begun at.late at.setup

-- a look at the store sees this
abbrev pub seen_if : Option (Table TypeInfo) → HeapSeen → Look
seen_if (Some types) heap = nothing_told
seen_if None heap = told_by heap

-- why an item is refused, by what session and heap have
abbrev pub refusal_of : SessionSeen → HeapSeen → Item → Option Reason
refusal_of session heap item =
    refusal_seen (setup_of session heap) session.names (is_none session.types) (seen_if session.types heap) item

-- A setting is set, and nothing else changes.
pub record Sets (old new : SessionSeen) (name value : ℕ) : Type 0 where
  pub settings : new.settings ≡ with_setting old.settings name value
  pub names : new.names ≡ old.names ++ name ∷ []
  pub types : new.types ≡ old.types

-- A type is added, and nothing else changes.
pub record Adds (old new : SessionSeen) (id : ℕ) (info : TypeInfo) : Type 0 where
  pub settings : new.settings ≡ old.settings
  pub names : new.names ≡ old.names
  pub types : new.types ≡ option_map (λ table. with_value table id info) old.types

-- The heap is started where it was closed, and stands for what the session stood at.
pub record Begins (old new : SessionSeen) (heap started : HeapSeen) : Type 0 where
  pub types : new.types ≡ None
  pub settings : new.settings ≡ old.settings
  pub names : new.names ≡ old.names
  pub has_heap : IsStarted old.settings started
  pub table : table_of started.parts ≡ types_in old.types heap
  pub told : told_by started ≡ seen_if old.types heap
  pub founds : (root : ℕ) → found_in started root ≡ found_in heap root
  pub stores : (store : Store) → HasStore old.types old.settings heap store → StandsFor started store

-- The item was done: from `at`, it added groups with these lines.
pub record DoesItem (session : SessionSeen) (heap : HeapSeen) (at : Progress) (item : Item) (before after : List Line) : Type 0 where
  pub groups : List Group
  pub next : Progress
  pub accepted : refusal at item ≡ None
  pub does : ItemDoes at item groups next
  pub lines : after ≡ before ++ group_lines groups
  pub stands : StandsAt session heap next

-- The limit refused the item with these numbers: from `at`, its collections added groups with these lines.
pub record ExceedsItem (session : SessionSeen) (heap : HeapSeen) (at : Progress) (item : Item) (counted request limit : ℕ) (before after : List Line) : Type 0 where
  pub groups : List Group
  pub next : Progress
  pub accepted : refusal at item ≡ None
  pub exceeds : ItemExceeds at item counted request limit groups next
  pub lines : after ≡ before ++ group_lines groups
  pub stands : StandsAt session heap next

-- Memory ran out in the item: of it nothing was done but whole blocks of its collections, and there session and heap stand.
pub record LeavesItem (session : SessionSeen) (heap : HeapSeen) (at : Progress) (item : Item) : Type 0 where
  pub next : Progress
  pub leaves : LeavesOff at item next
  pub stands : StandsAt session heap next

-- how an item is not done for which a call of the heap failed; a session's heap is not spent
abbrev pub fault_told : HeapFault → RunFault
fault_told Spent = OutOfMemory
fault_told NoMemory = OutOfMemory
fault_told (OverLimit counted request limit) = HeapLimit counted request limit

-- what a list held stands in front in it
abbrev pub KeepsFront : List Line → List Line → Type 0
KeepsFront before after = (rest : List Line) × (after ≡ before ++ rest)

-- What a session that stood at `at` answered to an item, when it appended to the lines and is at session and heap now.
abbrev pub Answers : Progress → Item → SessionSeen → HeapSeen → List Line → List Line → Result (Unit {0}) RunFault → Type 0
Answers at item session heap before after (Ok done) = DoesItem session heap at item before after
Answers at item session heap before after (Err (Malformed reason)) =
    (refusal at item ≡ Some reason) × (after ≡ before) × StandsAt session heap at
Answers at item session heap before after (Err (HeapLimit counted request limit)) =
    ExceedsItem session heap at item counted request limit before after
Answers at item session heap before after (Err OutOfMemory) =
    KeepsFront before after × (IsTrue heap.is_spent ⊎ LeavesItem session heap at item)
