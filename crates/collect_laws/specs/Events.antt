-- What an event does to the parts of a heap, and to each store that they stand for.
use Rattle.std.specs.Prelude.{◌≡◌, List, [], ◌++◌}
use Rattle.text_model.specs.declared.line.Line.{Line}
use Rattle.text_model.specs.declared.command.Command.{Command}
use Rattle.object_model.specs.Setup.{Setup}
use Rattle.store_model.specs.Store.{Store}
use Rattle.store_model.specs.Steps.{Does}
use Rattle.parts_model.specs.Parts.{HeapParts}
use Rattle.parts_model.specs.StandsFor.{PartsStandFor}

-- the lines that an event may print from a store on, and the store to which it then leads
abbrev pub EventOf : Type 1
EventOf = Setup → Store → List Line → Store → Type 0

-- The parts undergo an event, whose lines are appended: settings and types stay, and for each store that they stood for there is
-- one to which the event may lead with these lines, and that they stand for now.
pub record Undergoes (Event : EventOf) (old new : HeapParts) (before after : List Line) : Type 0 where
  pub setup : new.setup ≡ old.setup
  pub lines : List Line
  pub appended : after ≡ before ++ lines
  pub leads : (store : Store) → PartsStandFor old store → (later : Store) × Event old.setup store lines later × PartsStandFor new later

-- The parts underwent an event of whose lines nothing is said.
pub record Underwent (Event : EventOf) (old new : HeapParts) : Type 0 where
  pub lines : List Line
  pub undergoes : Undergoes Event old new [] lines

-- the command, as an event
abbrev pub Doing : Command → EventOf
Doing command setup store lines later = Does setup store command lines later
