-- A collection that begins while a cycle runs ends it and does a whole one: what was dropped meanwhile is freed too.
use Rattle.std.specs.Prelude.{[], ◌∷◌, refl}
use Rattle.store_model.proofs.Computed.{Visits, Frees}
use Rattle.store_model.proofs.Rows.{Allows, allows, computes}

in_marking : Allows
    ("type 1 fixed 0 0" ∷ "new 0 1" ∷ "step" ∷ "drop 0" ∷ "collect" ∷ [])
    ("new 1 young" ∷ "minor 1 0" ∷ "step scanning marking" ∷ "minor 0 0" ∷ "step marking sweeping" ∷ "visited 1" ∷ "minor 0 0" ∷
    "step sweeping finalizing" ∷ "minor 0 0" ∷ "step finalizing scanning" ∷ "threshold 16384" ∷ "minor 0 0" ∷ "step scanning marking" ∷
    "minor 0 0" ∷ "step marking sweeping" ∷ "minor 0 0" ∷ "step sweeping finalizing" ∷ "freed 1" ∷ "minor 0 0" ∷
    "step finalizing scanning" ∷ "threshold 16384" ∷ [])
unfolding computes
in_marking = allows (Visits (1 ∷ []) ∷ Frees [] ∷ Visits [] ∷ Frees (1 ∷ []) ∷ []) refl

in_sweeping : Allows
    ("type 1 fixed 0 0" ∷ "new 0 1" ∷ "step" ∷ "step" ∷ "drop 0" ∷ "collect" ∷ [])
    ("new 1 young" ∷ "minor 1 0" ∷ "step scanning marking" ∷ "minor 0 0" ∷ "step marking sweeping" ∷ "visited 1" ∷ "minor 0 0" ∷
    "step sweeping finalizing" ∷ "minor 0 0" ∷ "step finalizing scanning" ∷ "threshold 16384" ∷ "minor 0 0" ∷ "step scanning marking" ∷
    "minor 0 0" ∷ "step marking sweeping" ∷ "minor 0 0" ∷ "step sweeping finalizing" ∷ "freed 1" ∷ "minor 0 0" ∷
    "step finalizing scanning" ∷ "threshold 16384" ∷ [])
unfolding computes
in_sweeping = allows (Visits (1 ∷ []) ∷ Frees [] ∷ Visits [] ∷ Frees (1 ∷ []) ∷ []) refl

in_finalizing : Allows
    ("type 1 fixed 0 0" ∷ "new 0 1" ∷ "step" ∷ "step" ∷ "step" ∷ "drop 0" ∷ "collect" ∷ [])
    ("new 1 young" ∷ "minor 1 0" ∷ "step scanning marking" ∷ "minor 0 0" ∷ "step marking sweeping" ∷ "visited 1" ∷ "minor 0 0" ∷
    "step sweeping finalizing" ∷ "minor 0 0" ∷ "step finalizing scanning" ∷ "threshold 16384" ∷ "minor 0 0" ∷ "step scanning marking" ∷
    "minor 0 0" ∷ "step marking sweeping" ∷ "minor 0 0" ∷ "step sweeping finalizing" ∷ "freed 1" ∷ "minor 0 0" ∷
    "step finalizing scanning" ∷ "threshold 16384" ∷ [])
unfolding computes
in_finalizing = allows (Visits (1 ∷ []) ∷ Frees [] ∷ Visits [] ∷ Frees (1 ∷ []) ∷ []) refl
