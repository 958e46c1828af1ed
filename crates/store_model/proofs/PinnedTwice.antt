-- An object pinned twice is unpinned twice.
use Rattle.std.specs.Prelude.{[], ◌∷◌, refl}
use Rattle.text_model.specs.declared.item.Reason.TheVariants.{NotPinned}
use Rattle.store_model.proofs.Computed.{At}
use Rattle.store_model.proofs.Rows.{Refuses, refuses, computes}

pinned_twice : Refuses
    ("type 1 fixed 1 0" ∷ "new 0 1" ∷ "pin 0" ∷ "pin 0" ∷ "unpin 0" ∷ "minor" ∷ "where 0" ∷ "unpin 0" ∷ "minor" ∷ "where 0" ∷ [])
    "unpin 0"
    ("new 1 young" ∷ "pin yes" ∷ "pin yes" ∷ "minor 0 0" ∷ "where young" ∷ "minor 1 0" ∷ "where old 4294967304" ∷ [])
    NotPinned
unfolding computes
pinned_twice = refuses (At 4294967304 ∷ []) refl refl
