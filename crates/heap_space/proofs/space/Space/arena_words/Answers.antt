use Rattle.std.proofs.Common.{subst}
use Rattle.heap_space.specs.Order.{IsInOrder}
use Rattle.heap_space.proofs.Seen.{ordered-seen}
use Rattle.heap_space.proofs.space.Space.arena_words.Goals as goal

pub returns-clause-ordered : goal.returns-clause-ordered
returns-clause-ordered c = subst IsInOrder c.self.view_is (ordered-seen c.self.inside.areas c.arena_words.ensures.ordered)
