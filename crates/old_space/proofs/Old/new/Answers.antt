use Rattle.old_space.proofs.CallLaws.{fresh}
use Rattle.old_space.proofs.Old.new.Goals as goal

pub returns-clause-empty : goal.returns-clause-empty
returns-clause-empty c = λ m e.
    fresh _ m (c.new-2.ensures.empty m e.arenas e.arena_words) (c.in_ok-large.ensures m e.larges) c.new-2.ensures.small
