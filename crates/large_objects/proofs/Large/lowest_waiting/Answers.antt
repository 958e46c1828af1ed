use Rattle.large_objects.proofs.NextLaws.{lowest, lowest-none}
use Rattle.large_objects.proofs.Large.lowest_waiting.Goals as goal

pub unreachable-requires : goal.unreachable-requires
unreachable-requires c = let steps = c.in-None.ensures.steps in lowest-none _ _ _ _ _ c.requires.stands.blocks c.requires.some (c.range.ensures.between tt) steps.0

pub returns : goal.returns
returns c = lowest _ _ _ _ _ _ _ _ c.requires.stands.blocks c.requires.some (c.range.ensures.between tt) c.in-Some.ensures.steps
