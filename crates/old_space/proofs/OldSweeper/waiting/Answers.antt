use Rattle.old_space.proofs.CountLaws.{units-told}
use Rattle.old_space.proofs.OldSweeper.waiting.Goals as goal

pub returns : goal.returns
returns c = λ m s. units-told c.args.self.now _ _ _ m s c.waiting.ensures c.waiting-2.ensures.count c.saturating_add.ensures
