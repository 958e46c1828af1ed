use Rattle.std.proofs.Common.{ap, []}
use Rattle.heap_space.specs.Memory.{Memory}
use Rattle.memory_tests.proofs.pages.pages_are_begun_filled_and_ended.Goals as goal

pub take-requires-clause-stands : goal.take-requires-clause-stands
take-requires-clause-stands g c = record { live = []; waiting = []; fits = c.new-pages.ensures.empty c.in_ok-space.space (ap (λ (m : Memory). m.next_arena) c.in_ok-space.ensures) (ap (λ (m : Memory). m.arena_words) c.in_ok-space.ensures) }

pub give_back-requires : goal.give_back-requires
give_back-requires g c = let s = c.in_ok-take-5.ensures.stands in record { others = s.live; waiting = s.waiting; fits = c.in_ok-sixth.ensures.taken s.live s.waiting s.fits }
