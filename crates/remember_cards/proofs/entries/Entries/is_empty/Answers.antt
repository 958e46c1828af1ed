use Rattle.std.proofs.Common.{subst}
use Rattle.remember_cards.specs.Entries.{marks_in, AreOrderly}
use Rattle.remember_cards.proofs.OrderLaws.{orderly}
use Rattle.remember_cards.proofs.entries.Entries.is_empty.Goals as goal

pub returns : goal.returns
returns c = record {
  orderly = subst AreOrderly c.self.view_is (orderly (marks_in c.self.inside.arrays) c.self.inside.order.items c.self.invariant.differ c.self.invariant.some_cards);
}
