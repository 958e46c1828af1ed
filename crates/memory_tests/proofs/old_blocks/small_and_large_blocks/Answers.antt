use Rattle.std.proofs.Common.{[], ◌∷◌, ◌∙◌, refl, arith}
use Rattle.heap_space.specs.Extents.{Extent}
use Rattle.memory_tests.proofs.FreshLaws.{empty-fresh, headed-zero}
use Rattle.old_space.proofs.JoinLaws.{HasBlocks_front}
use Rattle.memory_tests.proofs.old_blocks.small_and_large_blocks.Goals as goal

pub take-requires-clause-stands : goal.take-requires-clause-stands
take-requires-clause-stands g c =
    record { live = []; waiting = []; blocks = c.in_ok-old.ensures.empty _ (empty-fresh _ _ 4096 16384 refl c.in_ok-space.ensures) }

pub live_blocks-requires : goal.live_blocks-requires
live_blocks-requires g c =
    let one : Extent = (c.in_ok-small.small, 64) in let two : Extent = (c.in_ok-large.large, 65) in
    let none = c.in_ok-old.ensures.empty _ (empty-fresh _ _ 4096 16384 refl c.in_ok-space.ensures) in
    let first = c.in_ok-small.ensures.taken [] [] none in
    let kept = c.in_ok-large.ensures.kept (one ∷ []) [] first in
    record {
      live = two ∷ one ∷ [];
      waiting = [];
      has = record {
        blocks = c.in_ok-large.ensures.taken (one ∷ []) [] first;
        headed = (
          headed-zero _ two c.in_ok-large.ensures.cleared,
          (headed-zero _ one (kept.0 c.in_ok-small.small (omega arith, omega arith) ∙ c.in_ok-small.ensures.cleared), tt),
        );
      };
    }

pub begin_sweep-requires : goal.begin_sweep-requires
begin_sweep-requires g c =
    let one : Extent = (c.in_ok-small.small, 64) in let two : Extent = (c.in_ok-large.large, 65) in
    let none = c.in_ok-old.ensures.empty _ (empty-fresh _ _ 4096 16384 refl c.in_ok-space.ensures) in
    record { live = two ∷ one ∷ []; blocks = c.in_ok-large.ensures.taken (one ∷ []) [] (c.in_ok-small.ensures.taken [] [] none) }

pub waits-requires : goal.waits-requires
waits-requires g c =
    let one : Extent = (c.in_ok-small.small, 64) in let two : Extent = (c.in_ok-large.large, 65) in
    let none = c.in_ok-old.ensures.empty _ (empty-fresh _ _ 4096 16384 refl c.in_ok-space.ensures) in
    let both = c.in_ok-large.ensures.taken (one ∷ []) [] (c.in_ok-small.ensures.taken [] [] none) in
    let begun = c.begin_sweep.ensures.begun (two ∷ one ∷ []) both in
    record { words = 64; live = record { others = two ∷ []; waiting = begun.waiting; blocks = HasBlocks_front _ _ (two ∷ []) [] one begun.waiting begun.blocks } }

pub waits-requires-2 : goal.waits-requires-2
waits-requires-2 g c =
    let one : Extent = (c.in_ok-small.small, 64) in let two : Extent = (c.in_ok-large.large, 65) in
    let none = c.in_ok-old.ensures.empty _ (empty-fresh _ _ 4096 16384 refl c.in_ok-space.ensures) in
    let both = c.in_ok-large.ensures.taken (one ∷ []) [] (c.in_ok-small.ensures.taken [] [] none) in
    let begun = c.begin_sweep.ensures.begun (two ∷ one ∷ []) both in
    record { words = 65; live = record { others = one ∷ []; waiting = begun.waiting; blocks = begun.blocks } }

pub give_back-requires : goal.give_back-requires
give_back-requires g c =
    let one : Extent = (c.in_ok-small.small, 64) in let two : Extent = (c.in_ok-large.large, 65) in
    let none = c.in_ok-old.ensures.empty _ (empty-fresh _ _ 4096 16384 refl c.in_ok-space.ensures) in
    let both = c.in_ok-large.ensures.taken (one ∷ []) [] (c.in_ok-small.ensures.taken [] [] none) in
    let begun = c.begin_sweep.ensures.begun (two ∷ one ∷ []) both in
    record { others = one ∷ []; waiting = begun.waiting; blocks = begun.blocks }
