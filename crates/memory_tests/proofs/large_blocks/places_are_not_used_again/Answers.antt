use Rattle.std.proofs.Common.{[], ◌∷◌}
use Rattle.heap_space.specs.Extents.{Extent}
use Rattle.large_objects.proofs.LargeLaws.{larges-fresh, HasBlocks_front}
use Rattle.memory_tests.proofs.large_blocks.places_are_not_used_again.Goals as goal

pub give_back-requires : goal.give_back-requires
give_back-requires g c =
    let one : Extent = (c.in_ok-first.first, 100) in
    let two : Extent = (c.in_ok-take.field-0, 70) in
    let none = c.in_ok-large.ensures _ (larges-fresh _ 16 64 c.in_ok-space.ensures) in
    let both = c.in_ok-take.ensures.taken (one ∷ []) [] (c.in_ok-first.ensures.taken [] [] none) in
    record { others = two ∷ []; waiting = []; blocks = HasBlocks_front _ _ (two ∷ []) [] one [] both }
