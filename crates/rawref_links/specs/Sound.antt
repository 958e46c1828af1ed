-- What holds of the structures and the dead queue at any time.
use Rattle.std.specs.Prelude.{◌≡◌, ℕ, Bool, false, IsTrue, List, Option, Some, None}
use Rattle.type_table.specs.Table.{Table, KeysRise, value_at}
use Rattle.object_model.specs.Sets.{is_in, AreDifferent}
use Rattle.store_model.specs.Store.{Struct}
use Rattle.store_model.specs.Structs.{Structs}
use Rattle.store_model.specs.StructChecks.{is_p_link_of}
use Rattle.rawref_links.specs.Conditions.{is_pending}

-- whether what was found is linked with the object at a place by a P link
abbrev pub is_p_linked_to : ℕ → Option Struct → Bool
is_p_linked_to place None = false
is_p_linked_to place (Some structure) = is_p_link_of (Some place) structure

-- the structures stand by rising number, and the dead queue has just the pending ones, each once
pub record AreQueued (structs : Table Struct) (dead : List ℕ) : Type 0 where
  pub rises : KeysRise structs
  pub waiting : (number : ℕ) → is_in number dead ≡ is_pending (value_at structs number)
  pub once : AreDifferent dead

-- and no object has P links with two structures
pub record AreSound (links : Structs) : Type 0 where
  pub queued : AreQueued links.structs links.dead
  pub one_p_link : (number other place : ℕ) → IsTrue (is_p_linked_to place (value_at links.structs number))
      → IsTrue (is_p_linked_to place (value_at links.structs other)) → number ≡ other
