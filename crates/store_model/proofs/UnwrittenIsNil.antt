-- A reference that was never written is nil, and a load from an empty slot is refused.
use Rattle.std.specs.Prelude.{[], ◌∷◌, refl}
use Rattle.text_model.specs.declared.item.Reason.TheVariants.{NilRoot}
use Rattle.store_model.proofs.Rows.{Refuses, refuses, computes}

unwritten_is_nil : Refuses
    ("type 1 fixed 0 1" ∷ "new 0 1" ∷ "load 1 0 0" ∷ [])
    "load 2 1 0"
    ("new 1 young" ∷ "loaded nil" ∷ [])
    NilRoot
unfolding computes
unwritten_is_nil = refuses [] refl refl
