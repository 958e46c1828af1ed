-- What ties the structures, the links of each object and the dead queue.
use Rattle.std.specs.Prelude.{◌≡◌, ℕ, Bool, false, ◌==◌, List, Option, Some, None}
use Rattle.type_table.specs.Table.{Table, value_at}
use Rattle.object_model.specs.Sets.{is_in}
use Rattle.store_model.specs.Store.{Struct}
use Rattle.store_model.specs.Structs.{is_link_of}
use Rattle.rawref_links.specs.Objects.{LinksOf, links_at}
use Rattle.rawref_links.specs.Sound.{is_p_linked_to, AreQueued}

-- whether what was found is linked with the object at a place
abbrev pub is_linked_to : ℕ → Option Struct → Bool
is_linked_to place None = false
is_linked_to place (Some structure) = is_link_of place structure

-- whether this number was found
abbrev pub is_number : ℕ → Option ℕ → Bool
is_number number None = false
is_number number (Some found) = found == number

-- the queue has the pending structures, and the links of each object are found at its place
pub record AreTied (structs : Table Struct) (objects : Table LinksOf) (dead : List ℕ) : Type 0 where
  pub queued : AreQueued structs dead
  pub linked : (number place : ℕ) → is_in number (links_at objects place).numbers ≡ is_linked_to place (value_at structs number)
  pub p_linked : (number place : ℕ) → is_number number (links_at objects place).p_link ≡ is_p_linked_to place (value_at structs number)
