-- Structures at the moment when their objects are gone, by their numbers.
use Rattle.std.specs.Prelude.{◌≡◌, ℕ, true, if◌then◌else◌, IsSome, List, Option, Some, None, filter_map, option_map}
use Rattle.std.specs.List.{All}
use Rattle.std.specs.List.Sorted.{IsStrictlyIncreasing}
use Rattle.type_table.specs.Table.{Table, KeysRise, value_at, with_value}
use Rattle.text_model.specs.declared.line.LinkEnd.{LinkEnd}
use Rattle.object_model.specs.Sets.{is_in}
use Rattle.store_model.specs.Store.{Struct}
use Rattle.store_model.specs.Structs.{with_object}
use Rattle.store_model.specs.Links.{link_end, struct_after}

-- how the link of what was found under a number ends
abbrev pub end_of : ℕ → Option Struct → Option LinkEnd
end_of number None = None
end_of number (Some structure) = link_end (λ _. true) (number, structure)

-- what is left of what was found
abbrev pub left_of : Option Struct → Option Struct
left_of None = None
left_of (Some structure) = struct_after (λ _. true) structure

-- the ends of the links of these structures, in this order
abbrev pub ends_of : Table Struct → List ℕ → List LinkEnd
ends_of structs numbers = filter_map (λ number. end_of number (value_at structs number)) numbers

-- the links of just these structures ended
pub record CutsAt (old new : Table Struct) (numbers : List ℕ) : Type 0 where
  pub rises : KeysRise new
  pub at : (q : ℕ) → value_at new q ≡ (if is_in q numbers then left_of (value_at old q) else value_at old q)

-- the structures, where the one that was found under a number is linked with the object at another place
abbrev pub with_moved : Table Struct → ℕ → ℕ → Option Struct → Table Struct
with_moved structs number to None = structs
with_moved structs number to (Some structure) = with_value structs number (with_object (λ _. to) structure)

-- the objects of just these structures lie at another place
pub record MovesAt (old new : Table Struct) (numbers : List ℕ) (to : ℕ) : Type 0 where
  pub rises : KeysRise new
  pub at : (q : ℕ) → value_at new q ≡ (if is_in q numbers then option_map (with_object (λ _. to)) (value_at old q) else value_at old q)

-- structures that are there, by rising number
pub record AreListed (structs : Table Struct) (numbers : List ℕ) : Type 0 where
  pub rises : KeysRise structs
  pub rising : IsStrictlyIncreasing numbers
  pub there : All (λ number. IsSome (value_at structs number)) numbers
