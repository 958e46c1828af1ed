-- Once a husk is freed, its home may be told of another object.
use Rattle.std.specs.Prelude.{[], ◌∷◌, refl}
use Rattle.store_model.proofs.Computed.{At, Visits, Frees}
use Rattle.store_model.proofs.Rows.{Allows, allows, computes}

home_comes_back : Allows
    ("type 1 fixed 0 0" ∷ "new 0 1" ∷ "id 0" ∷ "minor" ∷ "drop 0" ∷ "step" ∷ "step" ∷ "step" ∷ "new 1 1" ∷ "minor" ∷ "id 1" ∷ [])
    ("new 1 young" ∷ "id 4294967304" ∷ "minor 1 0" ∷ "minor 0 0" ∷ "step scanning marking" ∷ "minor 0 0" ∷ "step marking sweeping" ∷
    "minor 0 0" ∷ "step sweeping finalizing" ∷ "freed 1" ∷ "new 2 young" ∷ "minor 1 0" ∷ "id 4294967304" ∷ [])
unfolding computes
home_comes_back = allows (At 4294967304 ∷ Visits [] ∷ Frees (1 ∷ []) ∷ At 4294967304 ∷ []) refl
