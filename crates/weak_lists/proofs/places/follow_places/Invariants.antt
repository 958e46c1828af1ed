use Rattle.std.proofs.Common.{◌≡◌, ◌++◌, map, take, drop}
use Rattle.heap_space.specs.Places.{word_at}
use Rattle.weak_lists.specs.Targets.{left_at}
use Rattle.weak_lists.proofs.places.follow_places.Given as goal

abbrev pub invariant-loop-place : goal.invariant-loop-place
invariant-loop-place l =
    l.place-items ≡ map (left_at l.nursery.words (word_at l.space.blocks)) (take l.place-index l.initial.place-items) ++ drop l.place-index l.initial.place-items
