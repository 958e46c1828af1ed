-- When a count may change, and which structures are pending.
use Rattle.std.specs.Prelude.{◌≡◌, ℕ, ◌<◌, Bool, true, false, Option, Some, None}
use Rattle.std.specs.List.{All}
use Rattle.type_table.specs.Table.{Table}
use Rattle.store_model.specs.Store.{Struct, Linked, Unlinked, Pending}
use Rattle.store_model.specs.Structs.{is_link_of}

-- the own count may rise: it has one, and it is below the greatest
abbrev pub CanRise : Struct → Type 0
CanRise (Linked p light object own) = own < 4294967295
CanRise (Unlinked own) = own < 4294967295
CanRise Pending = ⊥

-- the own count may fall: it has one, and it is above 0
abbrev pub CanFall : Struct → Type 0
CanFall (Linked p light object own) = 0 < own
CanFall (Unlinked own) = 0 < own
CanFall Pending = ⊥

-- whether what was found under a number is a pending structure
abbrev pub is_pending : Option Struct → Bool
is_pending None = false
is_pending (Some (Linked p light object own)) = false
is_pending (Some (Unlinked own)) = false
is_pending (Some Pending) = true

-- no structure is linked with the object at a place
abbrev pub HasNoLink : Table Struct → ℕ → Type 0
HasNoLink structs place = All (λ entry. is_link_of place entry.1 ≡ false) structs
