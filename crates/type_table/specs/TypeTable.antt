-- Which tables from type ids to descriptors a program keeps.
use Rattle.std.specs.Prelude.{◌≤◌, length}
use Rattle.std.specs.List.{All}
use Rattle.type_table.specs.declared.info.TypeInfo.{TypeInfo}
use Rattle.type_table.specs.Table.{Table, KeysRise}

-- the ids rise and have at most 16 bits, and they are at most 4,096
pub record IsTypeTable (table : Table TypeInfo) : Type 0 where
  pub rises : KeysRise table
  pub in_range : All (λ entry. entry.0 ≤ 65535) table
  pub small : length table ≤ 4096
