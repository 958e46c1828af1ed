use Rattle.std.proofs.Common.{[], ◌∷◌, ◌∙◌, refl, arith}
use Rattle.heap_space.specs.Extents.{Extent}
use Rattle.memory_tests.proofs.FreshLaws.{empty-fresh, headed-zero}
use Rattle.memory_tests.proofs.old_blocks.pages_are_swept_before_large_blocks.Goals as goal

pub take-requires-clause-stands : goal.take-requires-clause-stands
take-requires-clause-stands g c =
    record { live = []; waiting = []; blocks = c.in_ok-old.ensures.empty _ (empty-fresh _ _ 4096 16384 refl c.in_ok-space.ensures) }

pub begin_sweep-requires : goal.begin_sweep-requires
begin_sweep-requires g c =
    let one : Extent = (c.in_ok-small.small, 64) in let two : Extent = (c.in_ok-large.large, 65) in
    let none = c.in_ok-old.ensures.empty _ (empty-fresh _ _ 4096 16384 refl c.in_ok-space.ensures) in
    record { live = two ∷ one ∷ []; blocks = c.in_ok-large.ensures.taken (one ∷ []) [] (c.in_ok-small.ensures.taken [] [] none) }

pub sweep-requires : goal.sweep-requires
sweep-requires g c =
    let one : Extent = (c.in_ok-small.small, 64) in let two : Extent = (c.in_ok-large.large, 65) in
    let none = c.in_ok-old.ensures.empty _ (empty-fresh _ _ 4096 16384 refl c.in_ok-space.ensures) in
    let first = c.in_ok-small.ensures.taken [] [] none in
    let both = c.in_ok-large.ensures.taken (one ∷ []) [] first in
    let kept = c.in_ok-large.ensures.kept (one ∷ []) [] first in
    let still = c.begin_sweep.ensures.kept (two ∷ one ∷ []) both in
    let begun = c.begin_sweep.ensures.begun (two ∷ one ∷ []) both in
    record {
      live = two ∷ one ∷ [];
      waiting = begun.waiting;
      has = record {
        blocks = begun.blocks;
        headed = (
          headed-zero _ two (still.0 c.in_ok-large.large (omega arith, omega arith) ∙ c.in_ok-large.ensures.cleared),
          (
            headed-zero _ one
                (still.1.0 c.in_ok-small.small (omega arith, omega arith) ∙ kept.0 c.in_ok-small.small (omega arith, omega arith) ∙ c.in_ok-small.ensures.cleared),
            tt,
          ),
        );
      };
    }
