-- Structures by their numbers, kept in a slab under keys.
use Rattle.std.specs.Prelude.{◌≡◌, ℕ, Bool, false, nat_eq, List, [], ◌∷◌, Option, Some, None, IsSome, is_some, slice_index_or, option_and_then}
use Rattle.std.specs.Map.{lookup}
use Rattle.type_table.specs.Table.{Table, value_at}
use Rattle.store_model.specs.Store.{Struct}
use Rattle.store_model.specs.Structs.{with_struct, forced_object}

-- what a slab has at a key
abbrev pub slot_at : List (Option Struct) → ℕ → Option Struct
slot_at slots key = slice_index_or slots key None

-- the structures of a slab under the numbers of their keys, by rising number
abbrev pub structs_in : List (Option Struct) → List (ℕ × ℕ) → Table Struct
structs_in slots [] = []
structs_in slots (entry ∷ entries) = with_struct (structs_in slots entries) entry.0 (slot_at slots entry.1)

-- each number has a key at which a structure stands, and no two numbers have the same
pub record AreKeyed (slots : List (Option Struct)) (entries : List (ℕ × ℕ)) : Type 0 where
  pub held : (number key : ℕ) → lookup (nat_eq number) entries ≡ Some key → IsSome (slot_at slots key)
  pub apart : (number other key : ℕ) → lookup (nat_eq number) entries ≡ Some key → lookup (nat_eq other) entries ≡ Some key → number ≡ other

-- whether a structure keeps an object
abbrev pub is_forcing : Option Struct → Bool
is_forcing None = false
is_forcing (Some structure) = is_some (forced_object structure)

-- the object that the structure of a number keeps
abbrev pub forced_at : Table Struct → ℕ → Option ℕ
forced_at structs number = option_and_then forced_object (value_at structs number)
