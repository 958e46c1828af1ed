-- What refusals look at in a store.
use Rattle.std.specs.Prelude.{ℕ, Bool, false, Option, Some, None, List, ◌++◌}
use Rattle.type_table.specs.Table.{value_at}
use Rattle.object_model.specs.declared.kind.Kind.{Kind}
use Rattle.object_model.specs.declared.structure.StructState.{StructState}
use Rattle.object_model.specs.Sets.{is_in}
use Rattle.store_model.specs.Store.{Store}
use Rattle.store_model.specs.Slots.{held, kind_in}
use Rattle.store_model.specs.Roots.{pinned_births, registered_births}
use Rattle.store_model.specs.Sound.{waiting_births}
use Rattle.store_model.specs.StructChecks.{has_p_link}
use Rattle.store_model.specs.Structs.{state_of}

-- what stands in a slot or at a structure's number
pub record Look : Type 0 where
  pub kind : ℕ → Option Kind  -- what is in a slot
  pub is_pinned : ℕ → Bool  -- whether a slot holds a pinned object
  pub was_registered : ℕ → Bool  -- whether a slot holds an object that is registered, chosen or queued
  pub has_p_link : ℕ → Bool  -- whether a slot holds an object with a P link
  pub structure : ℕ → StructState  -- the state of the structure of a number

-- whether the birth that a slot holds is in the list
abbrev pub is_held_in : Option ℕ → List ℕ → Bool
is_held_in None births = false
is_held_in (Some birth) births = is_in birth births

-- the look of a store
abbrev pub look : Store → Look
look store = record {
  kind = λ root. kind_in store.slots store.kept root;
  is_pinned = λ root. is_held_in (held store.slots root) (pinned_births store);
  was_registered = λ root. is_held_in (held store.slots root) (registered_births store ++ waiting_births store);
  has_p_link = λ root. has_p_link store.structs (held store.slots root);
  structure = λ number. state_of (value_at store.structs number);
}
