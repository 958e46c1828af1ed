-- What a contract sees of a session.
use Rattle.std.specs.Prelude.{◌≡◌, ℕ, List, Option, Some, None}
use Rattle.type_table.specs.declared.info.TypeInfo.{TypeInfo}
use Rattle.type_table.specs.Table.{Table}
use Rattle.object_model.specs.declared.settings.Settings.{Settings}

-- the settings, the numbers of those that were set, in order, and the types until the heap has them
pub record SessionSeen : Type 0 where
  pub settings : Settings
  pub names : List ℕ
  pub types : Option (Table TypeInfo)

-- the table that the heap is to get, if it is there, is the session's
abbrev pub IsForHeap : Option (Table TypeInfo) → Option (Table TypeInfo) → Type 0
IsForHeap None types = Unit {0}
IsForHeap (Some table) types = types ≡ Some table
