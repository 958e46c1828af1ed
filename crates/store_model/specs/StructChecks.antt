-- Checks on C structures, pins and finalizers that refuse a command.
use Rattle.std.specs.Prelude.{ℕ, Bool, true, false, ◌==◌, ◌&&◌, not, nat_le, is_none, [], ◌∷◌, Option, Some, None}
use Rattle.std.specs.List.{list_any}
use Rattle.type_table.specs.Table.{Table}
use Rattle.text_model.specs.declared.item.Reason.TheVariants.{NotPinned, NoQueue, Registered, StructUsed, HasPLink, NoStruct, StructPending, CountFull, CountZero, WrongShape, NilRoot}
use Rattle.object_model.specs.declared.kind.Kind.{Kind}
use Rattle.object_model.specs.declared.structure.StructState.{StructState}
use Rattle.object_model.specs.declared.structure.StructState.TheVariants as state
use Rattle.store_model.specs.Store.{Struct, Linked, Unlinked, Pending}
use Rattle.object_model.specs.Shapes.{is_weak}
use Rattle.store_model.specs.Checks.{Checks}

-- of what a slot holds, which must be a weak object
abbrev pub weak_checks : Option Kind → Checks
weak_checks found = (is_none found, NilRoot) ∷ (not (is_weak found), WrongShape) ∷ []

-- of the object to be unpinned: whether it is pinned
abbrev pub unpin_checks : Bool → Checks
unpin_checks pinned = (not pinned, NotPinned) ∷ []

-- of a queue: how many there are
abbrev pub queue_checks : ℕ → ℕ → Checks
queue_checks queues queue = (nat_le queues queue, NoQueue) ∷ []

-- of the object to be registered: whether it is, or waits
abbrev pub register_checks : Bool → Checks
register_checks registered = (registered, Registered) ∷ []

-- whether this is a structure with a P link to the object of a birth
abbrev pub is_p_link_of : Option ℕ → Struct → Bool
is_p_link_of None structure = false
is_p_link_of (Some birth) (Linked p light object own) = p && birth == object
is_p_link_of (Some birth) (Unlinked own) = false
is_p_link_of (Some birth) Pending = false

-- whether the object of a birth has a P link
abbrev pub has_p_link : Table Struct → Option ℕ → Bool
has_p_link structs birth = list_any (λ entry. is_p_link_of birth entry.1) structs

-- whether no structure has the number
abbrev pub is_absent : StructState → Bool
is_absent state.Absent = true
is_absent (state.Linked p light own) = false
is_absent (state.Unlinked own) = false
is_absent state.Pending = false

-- of a new link: what stands at its number, whether it is a P link, and whether the object has one
abbrev pub link_checks : StructState → Bool → Bool → Checks
link_checks found p has = (not (is_absent found), StructUsed) ∷ (p && has, HasPLink) ∷ []

-- of a structure that must be there
abbrev pub struct_checks : StructState → Checks
struct_checks found = (is_absent found, NoStruct) ∷ []

-- whether a structure is pending
abbrev pub is_pending : StructState → Bool
is_pending state.Absent = false
is_pending (state.Linked p light own) = false
is_pending (state.Unlinked own) = false
is_pending state.Pending = true

-- the own count of a structure, 0 where it has none
abbrev pub own_count : StructState → ℕ
own_count state.Absent = 0
own_count (state.Linked p light own) = own
own_count (state.Unlinked own) = own
own_count state.Pending = 0

-- of a structure whose own count is to rise
abbrev pub inc_checks : StructState → Checks
inc_checks found = (is_absent found, NoStruct) ∷ (is_pending found, StructPending) ∷ (nat_le 4294967295 (own_count found), CountFull) ∷ []

-- of a structure whose own count is to fall
abbrev pub dec_checks : StructState → Checks
dec_checks found = (is_absent found, NoStruct) ∷ (is_pending found, StructPending) ∷ (nat_le (own_count found) 0, CountZero) ∷ []
