-- Births of commands: the collections that are due, and then the object, within the limit.
use Rattle.std.specs.Prelude.{◌≡◌, ℕ, ◌+◌, ◌≤◌, List, ◌++◌, Option, Some, None, option_map}
use Rattle.type_table.specs.declared.info.TypeInfo.{TypeInfo}
use Rattle.type_table.specs.Words.{words_in}
use Rattle.text_model.specs.declared.command.Command.{Command}
use Rattle.text_model.specs.declared.command.Command.TheVariants.{NewFixed, NewArray, NewWeak}
use Rattle.text_model.specs.declared.line.Line.{Line}
use Rattle.object_model.specs.Setup.{Setup, type_at}
use Rattle.store_model.specs.Store.{Store, counted_words}
use Rattle.store_model.specs.Slots.{held}
use Rattle.object_model.specs.Newborn.{Request}
use Rattle.store_model.specs.Birth.{BirthOf}
use Rattle.store_model.specs.Collections.{MakesRoom}

-- an object of a fixed type for a slot
abbrev pub fixed_request : ℕ → ℕ → Request
fixed_request root type_id = record { slot = root; type_id = type_id; items = 0; target = None }

-- an array of so many items for a slot
abbrev pub array_request : ℕ → ℕ → ℕ → Request
array_request root type_id len = record { slot = root; type_id = type_id; items = len; target = None }

-- a weak object for a slot, with what another slot holds as its target
abbrev pub weak_request : Store → ℕ → ℕ → ℕ → Request
weak_request store root type_id target = record { slot = root; type_id = type_id; items = 0; target = held store.slots target }

-- Collections come as they are due, and then the object is born, which does not exceed the limit.
pub record BirthWithRoom (setup : Setup) (info : TypeInfo) (old : Store) (request : Request) (lines : List Line) (new : Store) : Type 0 where
  pub mid : Store
  pub before : List Line
  pub own : List Line
  pub made_room : MakesRoom setup.settings old (words_in info.shape request.items) before mid
  pub fits : counted_words mid + words_in info.shape request.items ≤ setup.settings.limit
  pub born : BirthOf setup info mid request own new
  pub printed : lines ≡ before ++ own

-- the same where there may be no such type, and then nothing is born
abbrev pub BirthWithRoomOf : Option TypeInfo → Setup → Store → Request → List Line → Store → Type 0
BirthWithRoomOf None setup old request lines new = ⊥
BirthWithRoomOf (Some info) setup old request lines new = BirthWithRoom setup info old request lines new

-- an object of the type that is asked for is born
abbrev pub Births : Setup → Store → Request → List Line → Store → Type 0
Births setup old request lines new = BirthWithRoomOf (type_at setup request.type_id) setup old request lines new

-- the words of an object of a type that is there
abbrev pub words_of_type : Option TypeInfo → ℕ → Option ℕ
words_of_type found items = option_map (λ info. words_in info.shape items) found

-- the words that a command asks for, if it bears an object of a type that is there
abbrev pub words_asked : Setup → Command → Option ℕ
words_asked setup (NewFixed root type_id) = words_of_type (type_at setup type_id) 0
words_asked setup (NewArray root type_id len) = words_of_type (type_at setup type_id) len
words_asked setup (NewWeak root type_id target) = words_of_type (type_at setup type_id) 0
words_asked setup command = None
