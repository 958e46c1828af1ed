-- Births: what a call asks of the parts of a heap, and what it does.
use Rattle.std.specs.Prelude.{◌≡◌, ℕ, ◌<◌, ◌≤◌, Bool, true, false, List, [], ◌∷◌, ◌++◌, Some}
use Rattle.type_table.specs.declared.info.Shape.TheVariants.{Weak}
use Rattle.type_table.specs.declared.info.TypeInfo.{TypeInfo}
use Rattle.type_table.specs.Table.{value_at}
use Rattle.type_table.specs.Words.{words_in}
use Rattle.text_model.specs.declared.command.Command.{Command}
use Rattle.text_model.specs.declared.line.Line.{Line}
use Rattle.text_model.specs.declared.line.Line.TheVariants.{Born}
use Rattle.object_model.specs.Setup.{young_words}
use Rattle.object_model.specs.Shapes.{is_weak_shape}
use Rattle.store_model.specs.Store.{Store}
use Rattle.store_model.specs.Births.{array_request, weak_request}
use Rattle.store_model.specs.Birth.{with_birth}
use Rattle.heap_parts.specs.Parts.{HeapParts}
use Rattle.heap_parts.specs.StandsFor.{PartsStandFor}
use Rattle.collect_laws.specs.Room.{HasRoomFor, BearsOne}
use Rattle.heap_core.specs.Commands.{AreStanding, PartsDo}

-- the parts do the command, and its lines are appended
pub record PartsAppend (old new : HeapParts) (command : Command) (before after : List Line) : Type 0 where
  pub lines : List Line
  pub appended : after ≡ before ++ lines
  pub does : PartsDo old new command lines

-- An object of the type is asked for: the slot and the type are there.
pub record IsAsked (heap : HeapParts) (root type_id : ℕ) (info : TypeInfo) (items : ℕ) : Type 0 where
  pub standing : AreStanding heap
  pub known : value_at heap.setup.types type_id ≡ Some info
  pub root_in : root < heap.setup.settings.roots
  pub items_few : items ≤ 16777216

-- and one of a type that is not weak
pub record MayAsk (heap : HeapParts) (root type_id items : ℕ) : Type 0 where
  pub info : TypeInfo
  pub plain : is_weak_shape info.shape ≡ false
  pub asked : IsAsked heap root type_id info items

-- an object of the type may be born: there is room for it
pub record IsFitting (heap : HeapParts) (root type_id : ℕ) (info : TypeInfo) (items : ℕ) : Type 0 where
  pub standing : AreStanding heap
  pub known : value_at heap.setup.types type_id ≡ Some info
  pub root_in : root < heap.setup.settings.roots
  pub items_few : items ≤ 16777216
  pub room : HasRoomFor heap (words_in info.shape items)

-- and so may one of a type that is there, and not weak
pub record MayBear (heap : HeapParts) (root type_id items : ℕ) : Type 0 where
  pub info : TypeInfo
  pub plain : is_weak_shape info.shape ≡ false
  pub fits : IsFitting heap root type_id info items

-- a weak object of a type that is there may be born
pub record MayBearWeak (heap : HeapParts) (root type_id : ℕ) : Type 0 where
  pub info : TypeInfo
  pub weak : info.shape ≡ Weak
  pub fits : IsFitting heap root type_id info 0

-- An object of the type is born, and its line is appended: old where it has more words than an object of the nursery may have,
-- and otherwise young, unless the nursery is gapped and has no room.
pub record Bears (old new : HeapParts) (root type_id : ℕ) (info : TypeInfo) (items : ℕ) (before after : List Line) : Type 0 where
  pub setup : new.setup ≡ old.setup
  pub is_old : Bool
  pub large : young_words old.setup.settings < words_in info.shape items → is_old ≡ true
  pub small : words_in info.shape items ≤ young_words old.setup.settings → old.gapped ≡ false → is_old ≡ false
  pub appended : after ≡ before ++ Born old.next is_old ∷ []
  pub stands : (store : Store) → PartsStandFor old store → PartsStandFor new (with_birth is_old store info (array_request root type_id items))

-- the same of a type that is there
pub record BearsKnown (old new : HeapParts) (root type_id items : ℕ) (before after : List Line) : Type 0 where
  pub info : TypeInfo
  pub known : value_at old.setup.types type_id ≡ Some info
  pub bears : Bears old new root type_id info items before after

-- and of a weak object, whose target is what another slot holds
pub record BearsWeakKnown (old new : HeapParts) (root type_id target : ℕ) (before after : List Line) : Type 0 where
  pub info : TypeInfo
  pub known : value_at old.setup.types type_id ≡ Some info
  pub bears : BearsOne info (λ store. weak_request store root type_id target) old new before after
