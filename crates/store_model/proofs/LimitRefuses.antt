-- Two arrays fill the limit, and a third object is refused.
use Rattle.std.specs.Prelude.{[], ◌∷◌, refl}
use Rattle.text_model.specs.declared.command.Command.TheVariants.{NewFixed}
use Rattle.store_model.proofs.Computed.{Visits, Frees}
use Rattle.store_model.proofs.Rows.{Exceeds, exceeds, computes}

limit_refuses : Exceeds
    ("set limit 64" ∷ "type 1 ints" ∷ "type 2 fixed 0 0" ∷ "new 0 1 29" ∷ "new 1 1 29" ∷ [])
    "new 2 2"
    ("new 1 young" ∷ "new 2 young" ∷ "minor 2 0" ∷ "step scanning marking" ∷ "minor 0 0" ∷ "step marking sweeping" ∷ "visited 1" ∷ "visited 2"
    ∷ "minor 0 0" ∷ "step sweeping finalizing" ∷ "minor 0 0" ∷ "step finalizing scanning" ∷ "threshold 16384" ∷ [])
    64 2 64
unfolding computes
limit_refuses = exceeds ("new 1 young" ∷ "new 2 young" ∷ []) [] (Visits (1 ∷ 2 ∷ []) ∷ Frees [] ∷ []) refl (NewFixed 2 2) refl refl refl refl refl refl refl refl
