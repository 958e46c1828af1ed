use Rattle.std.proofs.Common.{ap, []}
use Rattle.heap_space.specs.Memory.{Memory}
use Rattle.memory_tests.proofs.pages.a_free_block_comes_again.Goals as goal

pub take-requires-clause-stands : goal.take-requires-clause-stands
take-requires-clause-stands g c = record { live = []; waiting = []; fits = c.new-pages.ensures.empty c.in_ok-space.space (ap (λ (m : Memory). m.next_arena) c.in_ok-space.ensures) (ap (λ (m : Memory). m.arena_words) c.in_ok-space.ensures) }

pub give_back-requires : goal.give_back-requires
give_back-requires g c = let s = c.in_ok-first.ensures.stands in record { others = s.live; waiting = s.waiting; fits = c.in_ok-second.ensures.taken s.live s.waiting s.fits }
