-- What a minor collection begins from: unsettled roots, registered objects, and what remembered items refer to.
use Rattle.std.specs.Prelude.{ℕ, ◌+◌, Bool, List, [], ◌∷◌, Option, Some, None, if◌then◌else◌}
use Rattle.std.specs.List.{list_any}
use Rattle.object_model.specs.Sets.{is_in}
use Rattle.store_model.specs.Store.{Store}
use Rattle.object_model.specs.Object.{object_at}
use Rattle.object_model.specs.Fields.{refs_of}

-- the births in the items that pass the test, from an item on
abbrev pub referents_where : (ℕ → Bool) → ℕ → List (Option ℕ) → List ℕ
referents_where test i [] = []
referents_where test i (None ∷ refs) = referents_where test (i + 1) refs
referents_where test i (Some y ∷ refs) = if test i then y ∷ referents_where test (i + 1) refs else referents_where test (i + 1) refs

-- whether a remembered item of a settled object refers to x
abbrev pub has_remembered_referrer : Store → (ℕ → ℕ → Bool) → ℕ → Bool
has_remembered_referrer store remembered x =
    list_any (λ birth. is_in x (referents_where (remembered birth) 0 (refs_of (object_at store.kept birth)))) store.settled
