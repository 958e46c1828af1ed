use Rattle.std.proofs.Common.{[], ◌∷◌, sym, subst}
use Rattle.heap_space.specs.Memory.{Memory}
use Rattle.mark_steps.specs.Visits.{CanVisit}
use Rattle.list_tests.proofs.TwoObjects.{five-written, last-place, last-written, two-visits}
use Rattle.list_tests.proofs.marks.two_objects.Goals as goal

pub write-requires-6 : goal.write-requires-6
write-requires-6 c =
    last-place c.write-5.new.self c.in_ok-a.a
    (five-written c.in_ok-space.space c.add_arena.new.self c.write.new.self c.write-2.new.self c.write-3.new.self c.write-4.new.self c.write-5.new.self c.in_ok-a.a
    c.in_ok-space.ensures c.in_ok-a.ensures.ok c.write.ensures c.write-2.ensures c.write-3.ensures c.write-4.ensures c.write-5.ensures)

pub returns : goal.returns
returns c =
    let five = five-written c.in_ok-space.space c.add_arena.new.self c.write.new.self c.write-2.new.self c.write-3.new.self c.write-4.new.self c.write-5.new.self c.in_ok-a.a
    c.in_ok-space.ensures c.in_ok-a.ensures.ok c.write.ensures c.write-2.ensures c.write-3.ensures c.write-4.ensures c.write-5.ensures in
    subst (λ (m : Memory). CanVisit c.args.types.now 16 m (4294967296 ∷ []) (4294967296 ∷ 4294967300 ∷ []))
    (sym (last-written c.write-5.new.self c.write-6.new.self c.in_ok-a.a five c.write-6.ensures)) (two-visits c.args.types.now c.requires)
