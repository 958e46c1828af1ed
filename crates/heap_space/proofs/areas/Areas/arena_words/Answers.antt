use Rattle.std.proofs.Common.{subst}
use Rattle.heap_space.specs.Order.{IsInOrder}
use Rattle.heap_space.proofs.Fields.{in-order}
use Rattle.heap_space.proofs.areas.Areas.arena_words.Goals as goal

pub returns-clause-ordered : goal.returns-clause-ordered
returns-clause-ordered c = subst IsInOrder c.self.view_is (in-order c.self.inside c.self.invariant)
