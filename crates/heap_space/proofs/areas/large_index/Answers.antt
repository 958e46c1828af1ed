use Rattle.std.proofs.Common.{◌∙◌}
use Rattle.heap_space.proofs.Larges.{parted_some, covers-parted}
use Rattle.heap_space.proofs.areas.large_index.Goals as goal

pub overflow_sub-result : goal.overflow_sub-result
overflow_sub-result c = parted_some _ _ _ _ _ c.requires.larges.1 c.count_to.ensures.parts c.requires.held

pub returns-clause-found : goal.returns-clause-found
returns-clause-found c d =
    let some = parted_some _ _ _ _ _ c.requires.larges.1 c.count_to.ensures.parts c.requires.held in
    covers-parted _ _ _ _ _ d c.requires.larges.1 c.count_to.ensures.parts some c.count_to.ensures.bound
    ∙ c.requires.held
