use Rattle.std.proofs.Common.{take}
use Rattle.heap_space.specs.Places.{word_at}
use Rattle.weak_lists.specs.Targets.{is_gone, followed}
use Rattle.weak_lists.proofs.Settling.{IsSettling}
use Rattle.weak_lists.proofs.targets.follow_targets.Given as goal

abbrev pub invariant-loop-a : goal.invariant-loop-a
invariant-loop-a l =
    IsSettling l.types (followed l.nursery.words (word_at l.initial.space.blocks)) (is_gone l.nursery.words (word_at l.initial.space.blocks))
    l.initial.space l.space (take l.a-index l.places) l.initial.cleared.items l.cleared.items
