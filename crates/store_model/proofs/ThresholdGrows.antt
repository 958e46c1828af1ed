-- The threshold grows by at most 40 percent a cycle, and to at most 182 percent of the old words.
use Rattle.std.specs.Prelude.{[], ◌∷◌, refl}
use Rattle.store_model.proofs.Computed.{Visits, Frees}
use Rattle.store_model.proofs.Rows.{Allows, allows, computes}

threshold_grows : Allows
    ("set minimum 100" ∷ "type 1 ints" ∷ "new 0 1 97" ∷ "collect" ∷ "collect" ∷ [])
    ("new 1 young" ∷ "minor 1 0" ∷ "step scanning marking" ∷ "minor 0 0" ∷ "step marking sweeping" ∷ "visited 1" ∷ "minor 0 0" ∷
    "step sweeping finalizing" ∷ "minor 0 0" ∷ "step finalizing scanning" ∷ "threshold 140" ∷ "minor 0 0" ∷ "step scanning marking" ∷
    "minor 0 0" ∷ "step marking sweeping" ∷ "visited 1" ∷ "minor 0 0" ∷ "step sweeping finalizing" ∷ "minor 0 0" ∷
    "step finalizing scanning" ∷ "threshold 182" ∷ [])
unfolding computes
threshold_grows = allows (Visits (1 ∷ []) ∷ Frees [] ∷ Visits (1 ∷ []) ∷ Frees [] ∷ []) refl
