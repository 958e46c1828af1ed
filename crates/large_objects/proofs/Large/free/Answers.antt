use Rattle.std.proofs.Common.{refl, arith}
use Rattle.large_objects.proofs.CallLaws.{swept-freed}
use Rattle.large_objects.proofs.NextLaws.{next-block, block-within, block-base}
use Rattle.large_objects.proofs.KeptLaws.{outside-dropped}
use Rattle.large_objects.proofs.Large.free.Goals as goal

pub overflow_add-self : goal.overflow_add-self
overflow_add-self c = let w = block-within _ _ (next-block _ _ _ c.requires) in omega (arith, w.1)

pub drop_large-requires : goal.drop_large-requires
drop_large-requires c = let b = next-block _ _ _ c.requires in ((block-within _ _ b).0, block-base _ _ b)

pub returns-clause-freed : goal.returns-clause-freed
returns-clause-freed c = λ live waiting h. swept-freed _ _ _ _ _ live waiting c.remove.ensures.entries refl refl refl c.drop_large.ensures h

pub returns-clause-outside : goal.returns-clause-outside
returns-clause-outside c = outside-dropped _ _ _ c.arena_words-in_order.ensures.ordered (next-block _ _ _ c.requires) c.drop_large.ensures
