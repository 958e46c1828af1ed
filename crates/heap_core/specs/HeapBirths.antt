-- What the calls that collect answer, and those of births.
use Rattle.std.specs.Prelude.{◌≡◌, ℕ, true, false, if◌then◌else◌, List, ◌++◌, Option, None, Some, Result, Ok, Err, IsTrue, ◌⊎◌}
use Rattle.std.specs.declared.alloc.AllocError.{AllocError}
use Rattle.type_table.specs.declared.info.TypeInfo.{TypeInfo}
use Rattle.text_model.specs.declared.command.Command.{Command}
use Rattle.text_model.specs.declared.command.Command.TheVariants.{NewFixed, NewArray}
use Rattle.text_model.specs.declared.line.Line.{Line}
use Rattle.object_model.specs.Setup.{Setup}
use Rattle.object_model.specs.Shapes.{is_array_shape}
use Rattle.store_model.specs.Store.{Store}
use Rattle.store_model.specs.Births.{words_asked}
use Rattle.store_model.specs.Collections.{MakesRoom, needs_block, exceeds_limit}
use Rattle.collect_laws.specs.Room.{IsCommandRefused}
use Rattle.heap_core.specs.declared.fault.HeapFault.{HeapFault}
use Rattle.heap_core.specs.declared.fault.HeapFault.TheVariants.{Spent, OutOfMemory, HeapLimit}
use Rattle.heap_core.specs.Heap.{HeapSeen, StandsFor, spent_heap}
use Rattle.heap_core.specs.Commands.{OfParts, Performs, setup_in}
use Rattle.heap_core.specs.Room.{KeepsLines}

-- The limit refuses the command's birth with these numbers, and the lines of its collections are appended: settings and types stay,
-- and for each store that the heap stood for there is one where they may lead with these lines, and that the heap stands for now.
pub record Exceeds (old new : HeapSeen) (command : Command) (counted request limit : ℕ) (before after : List Line) : Type 0 where
  pub setup : setup_in new ≡ setup_in old
  pub same_spent : new.is_spent ≡ old.is_spent
  pub lines : List Line
  pub appended : after ≡ before ++ lines
  pub exceeds : (store : Store) → StandsFor old store → (later : Store)
      × OfParts old.parts (λ parts. IsCommandRefused command counted request limit parts.setup store lines later) × StandsFor new later

-- Of a birth no more was done than the collections before it: settings and types stay, and for each store that the heap stood for it
-- stands for one where these may lead.
pub record LeavesBirth (old new : HeapSeen) : Type 0 where
  pub setup : setup_in new ≡ setup_in old
  pub same_spent : new.is_spent ≡ old.is_spent
  pub words : ℕ
  pub lines : List Line
  pub leaves : (store : Store) → StandsFor old store → (later : Store)
      × OfParts old.parts (λ parts. MakesRoom parts.setup.settings store words lines later) × StandsFor new later

-- A collection comes before the birth that the command asks for: the nursery has no room for it, or it would exceed the limit.
pub record IsCollectionDue (command : Command) (setup : Setup) (store : Store) : Type 0 where
  pub words : ℕ
  pub asks : words_asked setup command ≡ Some words
  pub due : (needs_block setup.settings store words ≡ true) ⊎ (exceeds_limit setup.settings store words ≡ true)

-- The heap became spent, which it does only where a collection comes before the birth, in each store that it stood for.
pub record BecomesSpent (command : Command) (old new : HeapSeen) : Type 0 where
  pub spent : new ≡ spent_heap
  pub due : (store : Store) → StandsFor old store → OfParts old.parts (λ parts. IsCollectionDue command parts.setup store)

-- What the call of a birth answers: it is done, or the limit refuses it, or memory ran out, inside a collection that was due or
-- elsewhere. A spent heap does nothing.
abbrev pub AnswersBirth : Command → HeapSeen → HeapSeen → List Line → List Line → Result (Unit {0}) HeapFault → Type 0
AnswersBirth command old new before after (Ok done) = Performs old new command before after
AnswersBirth command old new before after (Err Spent) = IsTrue old.is_spent × (new ≡ old) × (after ≡ before)
AnswersBirth command old new before after (Err OutOfMemory) =
    (old.is_spent ≡ false) × KeepsLines before after × (BecomesSpent command old new ⊎ LeavesBirth old new)
AnswersBirth command old new before after (Err (HeapLimit counted request limit)) =
    (old.is_spent ≡ false) × Exceeds old new command counted request limit before after

-- how a call ends that collects: where memory ran out, the heap is spent
abbrev pub EndsCall : Result (Unit {0}) AllocError → HeapSeen → HeapSeen → Result (Unit {0}) HeapFault → Type 0
EndsCall (Ok done) old new result = (result ≡ Ok tt) × (new ≡ old)
EndsCall (Err error) old new result = (result ≡ Err OutOfMemory) × (new ≡ spent_heap)

-- and the call of a birth, where memory ran out inside a collection
abbrev pub EndsBirthCall : Result (Unit {0}) HeapFault → HeapSeen → HeapSeen → Result (Unit {0}) HeapFault → Type 0
EndsBirthCall (Err Spent) old new result = (result ≡ Err OutOfMemory) × (new ≡ spent_heap)
EndsBirthCall ended old new result = (result ≡ ended) × (new ≡ old)

-- the command by which an object of a type is born: with a length where the type is one of arrays
abbrev pub birth_command : Option TypeInfo → ℕ → ℕ → ℕ → Command
birth_command None root type_id len = NewFixed root type_id
birth_command (Some info) root type_id len =
    if is_array_shape info.shape then NewArray root type_id len else NewFixed root type_id
