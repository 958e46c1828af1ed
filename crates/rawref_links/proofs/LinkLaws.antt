-- The objects that P links keep, by rising number of their structures.
use Rattle.std.proofs.Common.{◌≡◌, ℕ, List, Option, Some, None, is_some, filter_map, option_and_then, refl, ◌∙◌}
use Rattle.std.specs.List.Sorted.{IsStrictlyIncreasing}
use Rattle.type_table.specs.Table.{Table, KeysRise, value_at}
use Rattle.object_model.specs.Sets.{is_in}
use Rattle.store_model.specs.Store.{Struct}
use Rattle.store_model.specs.Structs.{forced_object, forced_objects}
use Rattle.rawref_links.specs.Structures.{is_forcing, forced_at}
use Rattle.rawref_links.proofs.Picked.{Rises-increasing, found_by, picked}

-- the object that a structure keeps, whatever its number
abbrev keeper : ℕ → Struct → Option ℕ
keeper number structure = forced_object structure

forced_found : (number : ℕ) (found : Option Struct) → option_and_then forced_object found ≡ found_by keeper number found
forced_found number None = refl
forced_found number (Some structure) = refl

forcing_found : (number : ℕ) (found : Option Struct) → is_forcing found ≡ is_some (found_by keeper number found)
forcing_found number None = refl
forcing_found number (Some structure) = refl

-- told by rising number, they are those that a walk over all structures gives
pub forced_objects-told : (structs : Table Struct) (numbers : List ℕ) → KeysRise structs → IsStrictlyIncreasing numbers
    → ((n : ℕ) → is_in n numbers ≡ is_forcing (value_at structs n)) → filter_map (forced_at structs) numbers ≡ forced_objects structs
forced_objects-told structs numbers rises rising listed =
    (λ i. filter_map (λ n. forced_found n (value_at structs n) i) numbers)
    ∙ picked keeper structs numbers rises (Rises-increasing numbers rising) (λ n. listed n ∙ forcing_found n (value_at structs n))
