use Rattle.large_objects.proofs.WaitLaws.{waits-exactly}
use Rattle.large_objects.proofs.Large.waits.Goals as goal

pub returns : goal.returns
returns c = λ live waiting h. waits-exactly _ _ _ _ _ _ live waiting _ c.is_waiting.ensures c.requires.1.blocks h
