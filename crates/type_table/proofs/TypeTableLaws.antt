-- A new type leaves a table of types in order, where there is room.
use Rattle.std.proofs.Common.{◌≡◌, ℕ, ◌<◌, ◌≤◌, length, None, arith}
use Rattle.type_table.specs.declared.info.TypeInfo.{TypeInfo}
use Rattle.type_table.specs.Table.{Table, value_at, with_value}
use Rattle.type_table.specs.TypeTable.{IsTypeTable}
use Rattle.type_table.proofs.TableLaws.{All-with_value, KeysRise-with_value, length-with_value_new}

pub IsTypeTable-with_value : (table : Table TypeInfo) (id : ℕ) (info : TypeInfo) → IsTypeTable table → id ≤ 65535 → value_at table id ≡ None → length table < 4096 → IsTypeTable (with_value table id info)
IsTypeTable-with_value table id info sound fits absent room = record {
  rises = KeysRise-with_value table id info sound.rises;
  in_range = All-with_value (λ entry. entry.0 ≤ 65535) table id info fits sound.in_range;
  small = omega (arith, length-with_value_new table id info absent);
}
