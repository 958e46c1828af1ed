use Rattle.std.proofs.Common.{ap, [], ◌∷◌}
use Rattle.heap_space.specs.Memory.{Memory}
use Rattle.memory_tests.proofs.ObjectLaws.{can_sweep}
use Rattle.memory_tests.proofs.pages.a_page_that_waits_is_unused_after_its_sweep.Goals as goal

pub live_blocks-requires : goal.live_blocks-requires
live_blocks-requires g c = record { live = []; waiting = []; has = record { fits = c.new-pages.ensures.empty c.in_ok-space.space (ap (λ (m : Memory). m.next_arena) c.in_ok-space.ensures) (ap (λ (m : Memory). m.arena_words) c.in_ok-space.ensures); headed = tt } }

pub take-requires-clause-stands : goal.take-requires-clause-stands
take-requires-clause-stands g c = record { live = []; waiting = []; fits = c.new-pages.ensures.empty c.in_ok-space.space (ap (λ (m : Memory). m.next_arena) c.in_ok-space.ensures) (ap (λ (m : Memory). m.arena_words) c.in_ok-space.ensures) }

pub begin_sweep-requires : goal.begin_sweep-requires
begin_sweep-requires g c = record { live = (c.in_ok-block.block, 10) ∷ []; fits = c.in_ok-block.ensures.taken [] [] (c.new-pages.ensures.empty c.in_ok-space.space (ap (λ (m : Memory). m.next_arena) c.in_ok-space.ensures) (ap (λ (m : Memory). m.arena_words) c.in_ok-space.ensures)) }

pub waits-requires : goal.waits-requires
waits-requires g c =
    let b = c.begin_sweep.ensures.begun ((c.in_ok-block.block, 10) ∷ []) (c.in_ok-block.ensures.taken [] [] (c.new-pages.ensures.empty c.in_ok-space.space (ap (λ (m : Memory). m.next_arena) c.in_ok-space.ensures) (ap (λ (m : Memory). m.arena_words) c.in_ok-space.ensures))) in
    record { words = 10; live = record { others = []; waiting = b.waiting; fits = b.fits } }

pub give_back-requires : goal.give_back-requires
give_back-requires g c =
    let b = c.begin_sweep.ensures.begun ((c.in_ok-block.block, 10) ∷ []) (c.in_ok-block.ensures.taken [] [] (c.new-pages.ensures.empty c.in_ok-space.space (ap (λ (m : Memory). m.next_arena) c.in_ok-space.ensures) (ap (λ (m : Memory). m.arena_words) c.in_ok-space.ensures))) in
    record { others = []; waiting = b.waiting; fits = b.fits }

pub sweep_page-requires : goal.sweep_page-requires
sweep_page-requires g c =
    let b = c.begin_sweep.ensures.begun ((c.in_ok-block.block, 10) ∷ []) (c.in_ok-block.ensures.taken [] [] (c.new-pages.ensures.empty c.in_ok-space.space (ap (λ (m : Memory). m.next_arena) c.in_ok-space.ensures) (ap (λ (m : Memory). m.arena_words) c.in_ok-space.ensures))) in
    can_sweep c.give_back.new.self c.give_back.new.space [] _ b.waiting b.every.0 (c.give_back.ensures.given [] b.waiting b.fits) tt
