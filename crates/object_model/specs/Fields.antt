-- The whole numbers and references of objects.
use Rattle.std.specs.Prelude.{ℕ, ◌==◌, List, [], Option, Some, None, map, slice_get, slice_set, option_and_then, if◌then◌else◌}
use Rattle.object_model.specs.Object.{Object}

-- the objects, with the one of this birth changed
abbrev pub changed_at : Option ℕ → (Object → Object) → List Object → List Object
changed_at None change kept = kept
changed_at (Some birth) change kept = map (λ object. if birth == object.birth then change object else object) kept

-- the object with another whole number in its place
abbrev pub with_int : ℕ → ℕ → Object → Object
with_int item value object = record object { ints = slice_set object.ints item value }

-- the object with another reference in its place
abbrev pub with_ref : ℕ → Option ℕ → Object → Object
with_ref item birth object = record object { refs = slice_set object.refs item birth }

-- the whole numbers of an object that may be there
abbrev pub ints_of : Option Object → List ℕ
ints_of None = []
ints_of (Some object) = object.ints

-- the references of an object that may be there
abbrev pub refs_of : Option Object → List (Option ℕ)
refs_of None = []
refs_of (Some object) = object.refs

-- the reference in an item, None where it is nil
abbrev pub ref_in : List (Option ℕ) → ℕ → Option ℕ
ref_in refs item = option_and_then (λ birth. birth) (slice_get refs item)
