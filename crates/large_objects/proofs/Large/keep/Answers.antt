use Rattle.std.proofs.Common.{refl, arith}
use Rattle.large_objects.proofs.CallLaws.{swept-kept}
use Rattle.large_objects.proofs.NextLaws.{next-block, block-within, block-has}
use Rattle.large_objects.proofs.Large.keep.Goals as goal

pub read-header-requires : goal.read-header-requires
read-header-requires c = block-has _ _ (next-block _ _ _ c.requires)

pub write-requires : goal.write-requires
write-requires c = block-has _ _ (next-block _ _ _ c.requires)

pub overflow_add-self : goal.overflow_add-self
overflow_add-self c = let w = block-within _ _ (next-block _ _ _ c.requires) in omega (arith, w.1)

pub returns-clause-kept : goal.returns-clause-kept
returns-clause-kept c = λ live waiting h. swept-kept _ _ _ _ _ _ live waiting refl refl refl refl c.write.ensures h
