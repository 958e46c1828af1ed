-- While a cycle runs, the block that comes before a birth has a step.
use Rattle.std.specs.Prelude.{[], ◌∷◌, refl}
use Rattle.store_model.proofs.Computed.{Visits}
use Rattle.store_model.proofs.Rows.{Allows, allows, computes}

block_with_step : Allows
    ("set nursery 16" ∷ "type 1 fixed 6 0" ∷ "new 0 1" ∷ "new 1 1" ∷ "step" ∷ "new 2 1" ∷ "new 3 1" ∷ "new 4 1" ∷ [])
    ("new 1 young" ∷ "new 2 young" ∷ "minor 2 0" ∷ "step scanning marking" ∷ "new 3 young" ∷ "new 4 young" ∷ "minor 2 0" ∷
    "step marking sweeping" ∷ "visited 1" ∷ "visited 2" ∷ "visited 3" ∷ "visited 4" ∷ "new 5 young" ∷ [])
unfolding computes
block_with_step = allows (Visits (1 ∷ 2 ∷ 3 ∷ 4 ∷ []) ∷ []) refl
