-- The roots of a store, and what its objects refer to.
use Rattle.std.specs.Prelude.{ℕ, Bool, is_some, List, [], ◌++◌, Option, Some, None, map, filter_map, flat_map}
use Rattle.object_model.specs.Object.{Object, referents, object_at}
use Rattle.store_model.specs.Store.{Store}
use Rattle.store_model.specs.Structs.{forced_objects}

-- whether the object of a birth is kept
abbrev pub is_kept : List Object → ℕ → Bool
is_kept kept birth = is_some (object_at kept birth)

-- the births of the pinned objects
abbrev pub pinned_births : Store → List ℕ
pinned_births store = map (λ entry. entry.0) store.pinned

-- the births of the roots: slots, pinned objects, those that are chosen or queued, and objects that P links keep
abbrev pub roots_of : Store → List ℕ
roots_of store =
    filter_map (λ slot. slot) store.slots
    ++ (pinned_births store
    ++ (map (λ entry. entry.0) store.chosen ++ (flat_map (λ entry. entry.1) store.queues ++ forced_objects store.structs)))

-- the births of the registered objects
abbrev pub registered_births : Store → List ℕ
registered_births store = map (λ entry. entry.0) store.registered

-- the births that an object refers to, if it is there
abbrev pub referents_in : Option Object → List ℕ
referents_in None = []
referents_in (Some object) = referents object

-- the target of an object, if it is there and has one
abbrev pub target_in : Option Object → Option ℕ
target_in None = None
target_in (Some object) = object.target
