-- Births with the collections before them: what the calls over parts answer.
use Rattle.std.specs.Prelude.{◌≡◌, ℕ, true, List, ◌++◌, Some, Result, Ok, Err, ◌⊎◌}
use Rattle.type_table.specs.declared.info.TypeInfo.{TypeInfo}
use Rattle.type_table.specs.Table.{value_at}
use Rattle.type_table.specs.Words.{words_in}
use Rattle.text_model.specs.declared.command.Command.{Command}
use Rattle.text_model.specs.declared.line.Line.{Line}
use Rattle.store_model.specs.Births.{array_request, words_asked}
use Rattle.heap_parts.specs.Parts.{HeapParts}
use Rattle.collect_laws.specs.Events.{Undergoes, Underwent}
use Rattle.collect_laws.specs.Collections.{MakingRoom, MakesRoomFor}
use Rattle.collect_laws.specs.Room.{HasRoomFor, FindsNoRoom, IsCommandRefused, BearsOne}
use Rattle.collect_laws.specs.Tests.{needs_block_in, exceeds_limit_in}
use Rattle.heap_core.specs.declared.fault.HeapFault.{HeapFault}
use Rattle.heap_core.specs.declared.fault.HeapFault.TheVariants.{Spent, OutOfMemory, HeapLimit}
use Rattle.heap_core.specs.Bearing.{PartsAppend}

-- what a list held stands in front in it
abbrev pub KeepsLines : List Line → List Line → Type 0
KeepsLines before after = (rest : List Line) × (after ≡ before ++ rest)

-- the parts stand where the collections before a birth of so many words led
abbrev pub LedByRoom : HeapParts → HeapParts → Type 0
LedByRoom old new = (words : ℕ) × Underwent (MakingRoom words) old new

-- a collection comes before a birth of so many words
abbrev pub IsCollecting : ℕ → HeapParts → Type 0
IsCollecting words heap = (needs_block_in heap words ≡ true) ⊎ (exceeds_limit_in heap words ≡ true)

-- and before that of an object of a type that is there
pub record CollectsForType (type_id items : ℕ) (heap : HeapParts) : Type 0 where
  pub info : TypeInfo
  pub known : value_at heap.setup.types type_id ≡ Some info
  pub collects : IsCollecting (words_in info.shape items) heap

-- and before that which a command asks for
pub record CollectsForCommand (command : Command) (heap : HeapParts) : Type 0 where
  pub words : ℕ
  pub asks : words_asked heap.setup command ≡ Some words
  pub collects : IsCollecting words heap

-- there is room for so many words, behind the lines of collections
pub record FindsRoom (words : ℕ) (old new : HeapParts) (before after : List Line) : Type 0 where
  pub made : MakesRoomFor words old new before after
  pub room : HasRoomFor new words

-- The collections before a birth of so many words: there is room afterwards, or the limit refuses the birth. Where memory ran out
-- inside a collection, one was due, and nothing is said of the parts.
abbrev pub EndsRoom : ℕ → HeapParts → HeapParts → List Line → List Line → Result (Unit {0}) HeapFault → Type 0
EndsRoom words old new before after (Ok done) = FindsRoom words old new before after
EndsRoom words old new before after (Err Spent) = (after ≡ before) × IsCollecting words old
EndsRoom words old new before after (Err OutOfMemory) = KeepsLines before after × LedByRoom old new
EndsRoom words old new before after (Err (HeapLimit counted request limit)) = (request ≡ words) × FindsNoRoom words counted limit old new before after

-- room was made for an object of a type that is there, which was born then
pub record BornInRoom (root type_id items : ℕ) (old new : HeapParts) (before after : List Line) : Type 0 where
  pub info : TypeInfo
  pub known : value_at old.setup.types type_id ≡ Some info
  pub mid : HeapParts
  pub between : List Line
  pub found : FindsRoom (words_in info.shape items) old mid before between
  pub bears : BearsOne info (λ store. array_request root type_id items) mid new between after

-- the limit refuses it
pub record RefusedInRoom (type_id items counted request limit : ℕ) (old new : HeapParts) (before after : List Line) : Type 0 where
  pub info : TypeInfo
  pub known : value_at old.setup.types type_id ≡ Some info
  pub asked : request ≡ words_in info.shape items
  pub refused : FindsNoRoom (words_in info.shape items) counted limit old new before after

-- A birth with the collections before it.
abbrev pub BearsInRoom : ℕ → ℕ → ℕ → HeapParts → HeapParts → List Line → List Line → Result (Unit {0}) HeapFault → Type 0
BearsInRoom root type_id items old new before after (Ok done) = BornInRoom root type_id items old new before after
BearsInRoom root type_id items old new before after (Err Spent) = (after ≡ before) × CollectsForType type_id items old
BearsInRoom root type_id items old new before after (Err OutOfMemory) = KeepsLines before after × LedByRoom old new
BearsInRoom root type_id items old new before after (Err (HeapLimit counted request limit)) =
    RefusedInRoom type_id items counted request limit old new before after

-- How the command of a birth ends: it is done, or the limit refuses it, or memory ran out, inside a collection or elsewhere.
abbrev pub EndsBirth : Command → HeapParts → HeapParts → List Line → List Line → Result (Unit {0}) HeapFault → Type 0
EndsBirth command old new before after (Ok done) = PartsAppend old new command before after
EndsBirth command old new before after (Err Spent) = (after ≡ before) × CollectsForCommand command old
EndsBirth command old new before after (Err OutOfMemory) = KeepsLines before after × LedByRoom old new
EndsBirth command old new before after (Err (HeapLimit counted request limit)) =
    Undergoes (IsCommandRefused command counted request limit) old new before after
