use Rattle.std.proofs.Common.{[], ◌∷◌}
use Rattle.list_tests.proofs.TwoObjects.{second-step}
use Rattle.list_tests.proofs.marks.visits_in_two_steps.Goals as goal

pub mark-requires-2-clause-sound : goal.mark-requires-2-clause-sound
mark-requires-2-clause-sound g c =
    second-step c.in_ok-types.types c.in_ok-nursery.nursery c.in_ok-space.space c.mark.new.space c.in_ok-gray.gray c.push.new.self c.new-visited.result.items c.mark.new.self
    c.mark.new.visited.items (4294967296 ∷ 4294967300 ∷ []) c.in_ok-first.first c.in_ok-space.ensures c.in_ok-nursery.ensures.made c.in_ok-gray.ensures c.in_ok-push.ensures.ok c.in_ok-first.ensures.ok
