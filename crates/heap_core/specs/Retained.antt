-- What a whole collection of a heap leaves, by itself and before a birth, and how many steps it has.
use Rattle.std.specs.Prelude.{◌≡◌, List, ◌++◌, Result, Ok, Err}
use Rattle.text_model.specs.declared.command.Command.{Command}
use Rattle.text_model.specs.declared.line.Line.{Line}
use Rattle.store_model.specs.Store.{Store}
use Rattle.store_model.specs.CollectionBounds.{CollectsWhole}
use Rattle.collect_laws.specs.Events.{EventOf}
use Rattle.collect_laws.specs.Retained.{BirthRetained, RefusalRetained}
use Rattle.heap_core.specs.declared.fault.HeapFault.{HeapFault}
use Rattle.heap_core.specs.declared.fault.HeapFault.TheVariants.{Spent, OutOfMemory, HeapLimit}
use Rattle.heap_core.specs.Heap.{HeapSeen, StandsFor}
use Rattle.heap_core.specs.Commands.{OfParts}

-- The heap undergoes an event, whose lines are appended: for each store that it stood for there is one to which the event may lead with
-- these lines, and that the heap stands for now.
pub record HeapUndergoes (Event : EventOf) (old new : HeapSeen) (before after : List Line) : Type 0 where
  pub lines : List Line
  pub appended : after ≡ before ++ lines
  pub leads : (store : Store) → StandsFor old store → (later : Store)
      × OfParts old.parts (λ parts. Event parts.setup store lines later) × StandsFor new later

-- a whole collection, which leaves just what was retained, in at most so many steps
abbrev pub CollectingWhole : EventOf
CollectingWhole setup store lines later = CollectsWhole setup.settings store lines later

-- A birth of a command comes behind collections of which a whole one leaves just what was retained, and so does its refusal by the
-- limit: then the words of what was retained and those asked for exceed it.
abbrev pub BirthRetains : Command → HeapSeen → HeapSeen → List Line → List Line → Result (Unit {0}) HeapFault → Type 0
BirthRetains command old new before after (Ok done) = HeapUndergoes (BirthRetained command) old new before after
BirthRetains command old new before after (Err Spent) = Unit {0}
BirthRetains command old new before after (Err OutOfMemory) = Unit {0}
BirthRetains command old new before after (Err (HeapLimit counted request limit)) = HeapUndergoes (RefusalRetained request) old new before after
