use Rattle.std.proofs.Common.{[], ◌∷◌}
use Rattle.large_objects.specs.Blocks.{larges_of, places_of}
use Rattle.large_objects.proofs.LargeLaws.{larges-fresh}
use Rattle.memory_tests.proofs.large_blocks.unvisited_block_is_freed.Goals as goal

pub begin_sweep-requires : goal.begin_sweep-requires
begin_sweep-requires g c =
    let none = c.in_ok-large.ensures _ (larges-fresh _ 16 64 c.in_ok-space.ensures) in
    record { live = (c.in_ok-first.first, 100) ∷ []; blocks = c.in_ok-first.ensures.taken [] [] none }

pub waits-requires : goal.waits-requires
waits-requires g c =
    let none = c.in_ok-large.ensures _ (larges-fresh _ 16 64 c.in_ok-space.ensures) in
    let one = c.in_ok-first.ensures.taken [] [] none in
    (100, record { others = []; waiting = places_of (larges_of c.take.new.space); blocks = c.begin_sweep.ensures.begun _ one })
