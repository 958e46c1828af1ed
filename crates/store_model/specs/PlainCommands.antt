-- The commands on weak objects, finalizers and C structures, and copies of references: none of them collects.
use Rattle.std.specs.Prelude.{◌≡◌, ℕ, ◌+◌, Bool, ◌==◌, ◌&&◌, not, is_none, if◌then◌else◌, List, [], ◌∷◌, ◌++◌, Option, Some, None, filter, take, drop, slice_range, option_and_then}
use Rattle.type_table.specs.Table.{Table, value_at, with_value, without_key}
use Rattle.text_model.specs.declared.line.Line.{Line}
use Rattle.text_model.specs.declared.line.Line.TheVariants.{Dealloc}
use Rattle.object_model.specs.Object.{Object}
use Rattle.store_model.specs.Store.{Store, Struct, Linked, Unlinked, Pending}
use Rattle.store_model.specs.Structs.{with_struct, raised, lowered, take_dead, object_of}
use Rattle.store_model.specs.Slots.{held, object_in, put_in_slot}
use Rattle.object_model.specs.Fields.{changed_at, refs_of}
use Rattle.store_model.specs.Roots.{target_in}
use Rattle.store_model.specs.Reach.{Tells, Reaches}

-- references with so many of them from an item on replaced by those of others
abbrev pub copied : List (Option ℕ) → ℕ → List (Option ℕ) → ℕ → ℕ → List (Option ℕ)
copied refs item others other_item count = take item refs ++ (slice_range others other_item (other_item + count) ++ drop (item + count) refs)

-- an object with these references
abbrev pub with_refs : List (Option ℕ) → Object → Object
with_refs refs object = record object { refs = refs }

-- the store with references copied from the object in one slot to that in another, as if through a buffer
abbrev pub copy_refs : Store → ℕ → ℕ → ℕ → ℕ → ℕ → Store
copy_refs store root item from from_item count = record store {
  kept = changed_at (held store.slots root)
      (with_refs (copied (refs_of (object_in store.slots store.kept root)) item (refs_of (object_in store.slots store.kept from)) from_item count)) store.kept;
}

-- the object reaches it
abbrev pub IsRevived : List Object → Option ℕ → ℕ → Type 0
IsRevived kept None y = ⊥
IsRevived kept (Some x) y = Reaches kept x y

-- the store where what the test tells is neither unreached nor doomed
abbrev pub without_revived : (ℕ → Bool) → Store → Store
without_revived revived store = record store {
  unreached = filter (λ x. not (revived x)) store.unreached;
  doomed = filter (λ x. not (revived x)) store.doomed;
}

-- the object of a birth, if any, and all that it reaches is revived
pub record Revives (old : Store) (birth : Option ℕ) (new : Store) : Type 0 where
  pub revived : ℕ → Bool
  pub tells : Tells revived (IsRevived old.kept birth)
  pub leaves : new ≡ without_revived revived old

-- the target of the weak object in a slot
abbrev pub target_at : Store → ℕ → Option ℕ
target_at store root = target_in (object_in store.slots store.kept root)

-- one more registered object, at the end
abbrev pub registered_with : List (ℕ × ℕ) → Option ℕ → ℕ → List (ℕ × ℕ)
registered_with registered None queue = registered
registered_with registered (Some birth) queue = registered ++ (birth, queue) ∷ []

-- the store with the object in a slot registered
abbrev pub register_slot : Store → ℕ → ℕ → Store
register_slot store root queue = record store {
  registered = registered_with store.registered (held store.slots root) queue;
}

-- the first of a queue
abbrev pub first_of : Option (List ℕ) → Option ℕ
first_of None = None
first_of (Some []) = None
first_of (Some (birth ∷ rest)) = Some birth

-- the queues, of which one lost its first object; none is empty
abbrev pub without_first : Table (List ℕ) → ℕ → Option (List ℕ) → Table (List ℕ)
without_first queues queue None = queues
without_first queues queue (Some []) = queues
without_first queues queue (Some (birth ∷ [])) = without_key queues queue
without_first queues queue (Some (birth ∷ (next ∷ rest))) = with_value queues queue (next ∷ rest)

-- what comes next from a queue
abbrev pub next_of : Store → ℕ → Option ℕ
next_of store queue = first_of (value_at store.queues queue)

-- the store with the first of a queue in a slot
abbrev pub take_next : Store → ℕ → ℕ → Store
take_next store to queue = record (put_in_slot store to (next_of store queue)) {
  queues = without_first store.queues queue (value_at store.queues queue);
}

-- the store with a new structure, linked with the object in a slot
abbrev pub structs_linked : Table Struct → Bool → ℕ → Option ℕ → Bool → ℕ → Table Struct
structs_linked structs p number None light own = structs
structs_linked structs p number (Some birth) light own = with_value structs number (Linked p light birth own)

-- the store with a structure linked with the object in a slot
abbrev pub link_struct : Store → Bool → ℕ → ℕ → Bool → ℕ → Store
link_struct store p number root light own =
    record store { structs = structs_linked store.structs p number (held store.slots root) light own }

-- the structures, with the own count of what is found at a number one more
abbrev pub raised_at : Table Struct → ℕ → Option Struct → Table Struct
raised_at structs number None = structs
raised_at structs number (Some structure) = with_value structs number (raised structure)

-- and one less
abbrev pub lowered_at : Table Struct → ℕ → Option Struct → Table Struct
lowered_at structs number None = structs
lowered_at structs number (Some structure) = with_struct structs number (lowered structure)

-- the store with the own count of a structure one more
abbrev pub raise_struct : Store → ℕ → Store
raise_struct store number = record store { structs = raised_at store.structs number (value_at store.structs number) }

-- and one less
abbrev pub lower_struct : Store → ℕ → Store
lower_struct store number = record store { structs = lowered_at store.structs number (value_at store.structs number) }

-- the object of a P link whose own count is 0
abbrev pub forced_anew : Option Struct → Option ℕ
forced_anew None = None
forced_anew (Some (Linked p light birth own)) = if p && own == 0 then Some birth else None
forced_anew (Some (Unlinked own)) = None
forced_anew (Some Pending) = None

-- the line that a structure is gone, where lowering its count leaves nothing
abbrev pub dealloc_lines : ℕ → Option Struct → List Line
dealloc_lines number None = []
dealloc_lines number (Some structure) = if is_none (lowered structure) then Dealloc number ∷ [] else []

-- the store after the oldest pending structure was taken
abbrev pub take_dead_struct : Store → Store
take_dead_struct store = record store {
  structs = (take_dead store.structs store.dead).structs;
  dead = (take_dead store.structs store.dead).dead;
}

-- the oldest pending structure
abbrev pub first_number : List ℕ → Option ℕ
first_number [] = None
first_number (number ∷ rest) = Some number

-- the object of the structure of a number
abbrev pub linked_object : Store → ℕ → Option ℕ
linked_object store number = option_and_then object_of (value_at store.structs number)
