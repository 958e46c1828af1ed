use Rattle.std.proofs.Common.{ap, [], ◌∷◌, ◌∙◌, arith}
use Rattle.heap_space.specs.Memory.{Memory}
use Rattle.heap_space.specs.Extents.{Extent}
use Rattle.size_pages.proofs.OrderLaws.{HasBlocks_front}
use Rattle.memory_tests.proofs.ObjectLaws.{headed_zero, can_sweep}
use Rattle.memory_tests.proofs.pages.pages_are_swept_by_rising_place.Goals as goal

pub take-requires-clause-stands : goal.take-requires-clause-stands
take-requires-clause-stands g c = record { live = []; waiting = []; fits = c.new-pages.ensures.empty c.in_ok-space.space (ap (λ (m : Memory). m.next_arena) c.in_ok-space.ensures) (ap (λ (m : Memory). m.arena_words) c.in_ok-space.ensures) }

pub give_back-requires : goal.give_back-requires
give_back-requires g c =
    let none = c.new-pages.ensures.empty c.in_ok-space.space (ap (λ (m : Memory). m.next_arena) c.in_ok-space.ensures) (ap (λ (m : Memory). m.arena_words) c.in_ok-space.ensures) in
    let one : Extent = (c.in_ok-first.first, 56) in let two : Extent = (c.in_ok-second.second, 20) in let three : Extent = (c.in_ok-third.third, 10) in
    let f1 = c.in_ok-first.ensures.taken [] [] none in
    let f2 = c.in_ok-second.ensures.taken (one ∷ []) [] f1 in
    let f3 = c.in_ok-third.ensures.taken (two ∷ one ∷ []) [] f2 in
    let front = HasBlocks_front _ _ (three ∷ []) (one ∷ []) two [] f3 in
    record { others = three ∷ one ∷ []; waiting = []; fits = front }

pub begin_sweep-requires : goal.begin_sweep-requires
begin_sweep-requires g c =
    let none = c.new-pages.ensures.empty c.in_ok-space.space (ap (λ (m : Memory). m.next_arena) c.in_ok-space.ensures) (ap (λ (m : Memory). m.arena_words) c.in_ok-space.ensures) in
    let one : Extent = (c.in_ok-first.first, 56) in let two : Extent = (c.in_ok-second.second, 20) in let three : Extent = (c.in_ok-third.third, 10) in
    let f1 = c.in_ok-first.ensures.taken [] [] none in
    let f2 = c.in_ok-second.ensures.taken (one ∷ []) [] f1 in
    let f3 = c.in_ok-third.ensures.taken (two ∷ one ∷ []) [] f2 in
    let front = HasBlocks_front _ _ (three ∷ []) (one ∷ []) two [] f3 in
    record { live = three ∷ one ∷ []; fits = c.give_back.ensures.given (three ∷ one ∷ []) [] front }

pub sweep_page-requires : goal.sweep_page-requires
sweep_page-requires g c =
    let none = c.new-pages.ensures.empty c.in_ok-space.space (ap (λ (m : Memory). m.next_arena) c.in_ok-space.ensures) (ap (λ (m : Memory). m.arena_words) c.in_ok-space.ensures) in
    let one : Extent = (c.in_ok-first.first, 56) in let two : Extent = (c.in_ok-second.second, 20) in let three : Extent = (c.in_ok-third.third, 10) in
    let f1 = c.in_ok-first.ensures.taken [] [] none in
    let f2 = c.in_ok-second.ensures.taken (one ∷ []) [] f1 in
    let f3 = c.in_ok-third.ensures.taken (two ∷ one ∷ []) [] f2 in
    let front = HasBlocks_front _ _ (three ∷ []) (one ∷ []) two [] f3 in
    let given = c.give_back.ensures.given (three ∷ one ∷ []) [] front in
    let back = c.give_back.ensures.kept (three ∷ one ∷ []) [] front in
    let begun = c.begin_sweep.ensures.begun (three ∷ one ∷ []) given in
    let still = c.begin_sweep.ensures.kept (three ∷ one ∷ []) given in
    let by_second = c.in_ok-second.ensures.kept (one ∷ []) [] f1 in
    let by_third = c.in_ok-third.ensures.kept (two ∷ one ∷ []) [] f2 in
    can_sweep c.begin_sweep.new.self c.begin_sweep.new.space (three ∷ one ∷ []) _ begun.waiting begun.every.0 begun.fits (
      headed_zero c.begin_sweep.new.space three (still.0 three.0 (omega arith, omega arith) ∙ back.0 three.0 (omega arith, omega arith) ∙ c.in_ok-third.ensures.cleared),
      (
        headed_zero c.begin_sweep.new.space one (still.1.0 one.0 (omega arith, omega arith) ∙ back.1.0 one.0 (omega arith, omega arith) ∙ by_third.1.0 one.0 (omega arith, omega arith) ∙ by_second.0 one.0 (omega arith, omega arith) ∙ c.in_ok-first.ensures.cleared),
        tt,
      ),
    )
