-- A registered object moves.
use Rattle.std.specs.Prelude.{◌≡◌, ℕ, ◌⊎◌, IsFalse, List, Some, slice_get, slice_set}
use Rattle.object_model.specs.Sets.{is_in}
use Rattle.finalizer_order.specs.declared.entry.Entry.{Entry}
use Rattle.finalizer_order.specs.Finalizers.{places_of}

-- one that lay at a place lies at another
pub record MovesOne (from to : ℕ) (old new : List Entry) : Type 0 where
  pub which : ℕ
  pub entry : Entry
  pub was : slice_get old which ≡ Some entry
  pub from_there : entry.place ≡ from
  pub is : new ≡ slice_set old which (record entry { place = to })

-- none lay at a place
pub record MovesNone (from : ℕ) (old new : List Entry) : Type 0 where
  pub none : IsFalse (is_in from (places_of old))
  pub same : new ≡ old

-- the registered object that lay at a place lies at another, if there is one
abbrev pub Moves : ℕ → ℕ → List Entry → List Entry → Type 0
Moves from to old new = MovesOne from to old new ⊎ MovesNone from old new
