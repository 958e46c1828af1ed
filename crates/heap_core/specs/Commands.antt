-- What the calls of a heap ask, and what they do to each store that the heap stands for.
use Rattle.std.specs.Prelude.{◌≡◌, ℕ, Bool, true, false, List, ◌++◌, Option, Some, None, option_map, Result, Ok, Err}
use Rattle.type_table.specs.declared.info.TypeInfo.{TypeInfo}
use Rattle.type_table.specs.Table.{Table, value_at}
use Rattle.text_model.specs.declared.command.Command.{Command}
use Rattle.text_model.specs.declared.line.Line.{Line}
use Rattle.object_model.specs.declared.settings.Settings.{Settings}
use Rattle.object_model.specs.declared.structure.StructState.TheVariants.{Absent}
use Rattle.object_model.specs.Setup.{Setup}
use Rattle.store_model.specs.Store.{Store}
use Rattle.store_model.specs.Steps.{Does}
use Rattle.store_model.specs.Checks.{first_reason}
use Rattle.store_model.specs.Look.{Look}
use Rattle.store_model.specs.Refusal.{command_checks}
use Rattle.heap_core.specs.declared.fault.HeapFault.{HeapFault}
use Rattle.heap_core.specs.declared.fault.HeapFault.TheVariants.{Spent, OutOfMemory}
use Rattle.heap_parts.specs.Parts.{HeapParts, AreFresh}
use Rattle.heap_parts.specs.Told.{told}
use Rattle.heap_parts.specs.StandsFor.{PartsStandFor}
use Rattle.heap_core.specs.Heap.{HeapSeen, heap_of, StandsFor}

-- the parts stand for some store
pub record AreStanding (parts : HeapParts) : Type 0 where
  pub store : Store
  pub stands : PartsStandFor parts store

-- they do, and the command is not refused there
pub record AreReady (parts : HeapParts) (command : Command) : Type 0 where
  pub standing : AreStanding parts
  pub accepted : first_reason (command_checks parts.setup (told parts) command) ≡ None

-- something holds of the parts of a heap that was started and is not spent
abbrev pub OfParts : Option HeapParts → (HeapParts → Type 0) → Type 0
OfParts None P = ⊥
OfParts (Some parts) P = P parts

-- The parts do the command, with these lines: settings and types stay, and for each store that they stood for there is one that
-- the command may leave with these lines, and that they stand for now.
pub record PartsDo (old new : HeapParts) (command : Command) (lines : List Line) : Type 0 where
  pub setup : new.setup ≡ old.setup
  pub does : (store : Store) → PartsStandFor old store → (later : Store) × Does old.setup store command lines later × PartsStandFor new later

-- Settings and types stay, and the parts stand for each store that they stood for.
pub record PartsKeep (old new : HeapParts) : Type 0 where
  pub setup : new.setup ≡ old.setup
  pub stands : (store : Store) → PartsStandFor old store → PartsStandFor new store

-- the heap was started, is not spent, and stands for some store
abbrev pub IsStanding : HeapSeen → Type 0
IsStanding heap = OfParts heap.parts AreStanding

abbrev pub CanDoIf : Bool → Option HeapParts → Command → Type 0
CanDoIf true parts command = Unit {0}
CanDoIf false parts command = OfParts parts (λ found. AreReady found command)

-- the heap is spent, or was started and stands for a store in which the command is not refused
abbrev pub CanDo : HeapSeen → Command → Type 0
CanDo heap command = CanDoIf heap.is_spent heap.parts command

-- the settings and types of a heap that was started
abbrev pub setup_in : HeapSeen → Option Setup
setup_in heap = option_map (λ parts. parts.setup) heap.parts

abbrev pub type_found : Option HeapParts → ℕ → Option TypeInfo
type_found None id = None
type_found (Some parts) id = value_at parts.setup.types id

-- what a heap without parts tells
abbrev pub nothing_told : Look
nothing_told = record {
  kind = λ root. None;
  is_pinned = λ root. false;
  was_registered = λ root. false;
  has_p_link = λ root. false;
  structure = λ number. Absent;
}

abbrev pub told_if : Option HeapParts → Look
told_if None = nothing_told
told_if (Some parts) = told parts

-- what a caller can be told of a heap
abbrev pub told_by : HeapSeen → Look
told_by heap = told_if heap.parts

-- how a call fails that can only be out of memory, but on a spent heap
abbrev pub fault_of : Bool → HeapFault
fault_of true = Spent
fault_of false = OutOfMemory

-- a call that is done, but on a spent heap
abbrev pub done_unless : Bool → Result (Unit {0}) HeapFault
done_unless true = Err Spent
done_unless false = Ok tt

-- a heap that was just started with these settings and types
pub record IsFresh (heap : HeapSeen) (settings : Settings) (types : Table TypeInfo) : Type 0 where
  pub parts : HeapParts
  pub is : heap ≡ heap_of parts
  pub fresh : AreFresh parts settings types

-- The heap does the command and appends its lines: settings and types stay, and for each store that the heap stood for there is
-- one that the command may leave with these lines, and that the heap stands for now.
pub record Performs (old new : HeapSeen) (command : Command) (before after : List Line) : Type 0 where
  pub setup : setup_in new ≡ setup_in old
  pub same_spent : new.is_spent ≡ old.is_spent
  pub lines : List Line
  pub appended : after ≡ before ++ lines
  pub does : (store : Store) → StandsFor old store → (later : Store)
      × OfParts old.parts (λ parts. Does parts.setup store command lines later) × StandsFor new later

-- Nothing that a script can tell changes: settings and types stay, and the heap stands for each store that it stood for.
pub record Keeps (old new : HeapSeen) : Type 0 where
  pub setup : setup_in new ≡ setup_in old
  pub same_spent : new.is_spent ≡ old.is_spent
  pub stands : (store : Store) → StandsFor old store → StandsFor new store
