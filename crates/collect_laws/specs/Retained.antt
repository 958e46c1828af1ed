-- Births, with what the whole collection before them leaves.
use Rattle.std.specs.Prelude.{◌≡◌, ℕ, Bool, List, ◌++◌, Some}
use Rattle.type_table.specs.declared.info.TypeInfo.{TypeInfo}
use Rattle.text_model.specs.declared.command.Command.{Command}
use Rattle.text_model.specs.declared.line.Line.{Line}
use Rattle.object_model.specs.declared.settings.Settings.{Settings}
use Rattle.object_model.specs.Newborn.{Request}
use Rattle.object_model.specs.Setup.{Setup}
use Rattle.store_model.specs.Store.{Store}
use Rattle.store_model.specs.Birth.{with_birth}
use Rattle.store_model.specs.Births.{words_asked}
use Rattle.store_model.specs.Collections.{When, Block, is_step_due, needs_block, exceeds_limit}
use Rattle.store_model.specs.CollectionBounds.{CollectsWhole, RetainedExceed}

-- the collections that come before a birth of so many words, with what a whole one leaves
pub record RoomRetained (settings : Settings) (old : Store) (words : ℕ) (lines : List Line) (new : Store) : Type 0 where
  pub mid : Store
  pub first : List Line
  pub second : List Line
  pub block : When (needs_block settings old words) (Block is_step_due settings) old first mid
  pub collect : When (exceeds_limit settings mid words) (CollectsWhole settings) mid second new
  pub printed : lines ≡ first ++ second

-- the object that a command asks for is born behind such collections
pub record BirthRetained (command : Command) (setup : Setup) (old : Store) (lines : List Line) (new : Store) : Type 0 where
  pub words : ℕ
  pub asks : words_asked setup command ≡ Some words
  pub mid : Store
  pub before : List Line
  pub own : List Line
  pub room : RoomRetained setup.settings old words before mid
  pub born : (is_old : Bool) × (info : TypeInfo) × (request : Request) × (new ≡ with_birth is_old mid info request)
  pub printed : lines ≡ before ++ own

-- or it is refused behind them, since the words of what is retained leave no room
pub record RefusalRetained (words : ℕ) (setup : Setup) (old : Store) (lines : List Line) (new : Store) : Type 0 where
  pub room : RoomRetained setup.settings old words lines new
  pub exceed : RetainedExceed setup.settings old words
