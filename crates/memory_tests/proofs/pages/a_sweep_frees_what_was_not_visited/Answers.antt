use Rattle.std.proofs.Common.{ap, [], ◌∷◌, ◌∙◌, arith}
use Rattle.heap_space.specs.Memory.{Memory}
use Rattle.heap_space.specs.Extents.{Extent}
use Rattle.size_pages.specs.HasBlocks.{IsLive}
use Rattle.size_pages.proofs.FrameLaws.{HasBlocks_apart}
use Rattle.size_pages.proofs.OrderLaws.{HasBlocks_front}
use Rattle.size_pages.proofs.ArenaLaws.{arenas_then}
use Rattle.memory_tests.proofs.ObjectLaws.{has_header, has_later, words_apart, headed_plain, headed_visited, can_sweep}
use Rattle.memory_tests.proofs.pages.a_sweep_frees_what_was_not_visited.Goals as goal

pub take-requires-clause-stands : goal.take-requires-clause-stands
take-requires-clause-stands g c = record { live = []; waiting = []; fits = c.new-pages.ensures.empty c.in_ok-space.space (ap (λ (m : Memory). m.next_arena) c.in_ok-space.ensures) (ap (λ (m : Memory). m.arena_words) c.in_ok-space.ensures) }

pub write_object-requires : goal.write_object-requires
write_object-requires g c =
    let none = c.new-pages.ensures.empty c.in_ok-space.space (ap (λ (m : Memory). m.next_arena) c.in_ok-space.ensures) (ap (λ (m : Memory). m.arena_words) c.in_ok-space.ensures) in
    record { others = []; waiting = []; fits = c.in_ok-visited.ensures.taken [] [] none }

pub take-requires-2-clause-stands : goal.take-requires-2-clause-stands
take-requires-2-clause-stands g c =
    let none = c.new-pages.ensures.empty c.in_ok-space.space (ap (λ (m : Memory). m.next_arena) c.in_ok-space.ensures) (ap (λ (m : Memory). m.arena_words) c.in_ok-space.ensures) in
    let one : Extent = (c.in_ok-visited.visited, 10) in
    let first = c.write_object.ensures.blocks [] [] (c.in_ok-visited.ensures.taken [] [] none) in
    record { live = one ∷ []; waiting = []; fits = first }

pub write_object-requires-2 : goal.write_object-requires-2
write_object-requires-2 g c =
    let none = c.new-pages.ensures.empty c.in_ok-space.space (ap (λ (m : Memory). m.next_arena) c.in_ok-space.ensures) (ap (λ (m : Memory). m.arena_words) c.in_ok-space.ensures) in
    let one : Extent = (c.in_ok-visited.visited, 10) in
    let first = c.write_object.ensures.blocks [] [] (c.in_ok-visited.ensures.taken [] [] none) in
    record { others = one ∷ []; waiting = []; fits = c.in_ok-dead.ensures.taken (one ∷ []) [] first }

pub begin_sweep-requires : goal.begin_sweep-requires
begin_sweep-requires g c =
    let none = c.new-pages.ensures.empty c.in_ok-space.space (ap (λ (m : Memory). m.next_arena) c.in_ok-space.ensures) (ap (λ (m : Memory). m.arena_words) c.in_ok-space.ensures) in
    let one : Extent = (c.in_ok-visited.visited, 10) in let two : Extent = (c.in_ok-dead.dead, 10) in
    let first = c.write_object.ensures.blocks [] [] (c.in_ok-visited.ensures.taken [] [] none) in
    let both = c.write_object-2.ensures.blocks (one ∷ []) [] (c.in_ok-dead.ensures.taken (one ∷ []) [] first) in
    record { live = two ∷ one ∷ []; fits = both }

pub sweep_page-requires : goal.sweep_page-requires
sweep_page-requires g c =
    let none = c.new-pages.ensures.empty c.in_ok-space.space (ap (λ (m : Memory). m.next_arena) c.in_ok-space.ensures) (ap (λ (m : Memory). m.arena_words) c.in_ok-space.ensures) in
    let one : Extent = (c.in_ok-visited.visited, 10) in let two : Extent = (c.in_ok-dead.dead, 10) in
    let first = c.write_object.ensures.blocks [] [] (c.in_ok-visited.ensures.taken [] [] none) in
    let both = c.write_object-2.ensures.blocks (one ∷ []) [] (c.in_ok-dead.ensures.taken (one ∷ []) [] first) in
    let begun = c.begin_sweep.ensures.begun (two ∷ one ∷ []) both in
    let still = c.begin_sweep.ensures.kept (two ∷ one ∷ []) both in
    let kept = c.in_ok-dead.ensures.kept (one ∷ []) [] first in
    let away = words_apart two.0 one.0 (HasBlocks_apart c.take-2.new.self c.write_object-2.new.space (two ∷ one ∷ []) [] both).0.0 in
    can_sweep c.begin_sweep.new.self c.begin_sweep.new.space (two ∷ one ∷ []) _ begun.waiting begun.every.0 begun.fits (
      headed_plain c.begin_sweep.new.space two (still.0 two.0 (omega arith, omega arith) ∙ c.write_object-2.ensures.header),
      (
        headed_visited c.begin_sweep.new.space one (still.1.0 one.0 (omega arith, omega arith) ∙ c.write_object-2.ensures.rest one.0 away.0 away.1 ∙ kept.0 one.0 (omega arith, omega arith) ∙ c.write_object.ensures.header),
        tt,
      ),
    )

pub read-requires : goal.read-requires
read-requires g c =
    let none = c.new-pages.ensures.empty c.in_ok-space.space (ap (λ (m : Memory). m.next_arena) c.in_ok-space.ensures) (ap (λ (m : Memory). m.arena_words) c.in_ok-space.ensures) in
    let one : Extent = (c.in_ok-visited.visited, 10) in let two : Extent = (c.in_ok-dead.dead, 10) in
    let first = c.write_object.ensures.blocks [] [] (c.in_ok-visited.ensures.taken [] [] none) in
    let both = c.write_object-2.ensures.blocks (one ∷ []) [] (c.in_ok-dead.ensures.taken (one ∷ []) [] first) in
    let live : IsLive c.take-2.new.self c.write_object-2.new.space one = record { others = two ∷ []; waiting = []; fits = HasBlocks_front c.take-2.new.self c.write_object-2.new.space (two ∷ []) [] one [] both } in
    has_later c.write_object-2.new.space c.sweep_page.new.space one.0 (arenas_then c.write_object-2.new.space c.begin_sweep.new.space c.sweep_page.new.space c.begin_sweep.ensures.arenas c.sweep_page.ensures.arenas)
    (has_header c.take-2.new.self c.write_object-2.new.space one.0 10 live (omega arith))
