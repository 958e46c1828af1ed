use Rattle.std.proofs.Common.{[], ◌∷◌, sym, subst}
use Rattle.heap_space.specs.Memory.{Memory}
use Rattle.weak_lists.specs.Conditions.{CanClear}
use Rattle.list_tests.proofs.TwoWeak.{weak-written, two-clear}
use Rattle.list_tests.proofs.weaks.two_weak.Goals as goal

pub returns : goal.returns
returns c =
    let all = weak-written c.in_ok-space.space c.add_arena.new.self c.write.new.self c.write-2.new.self c.write-3.new.self c.write-4.new.self c.in_ok-a.a
    c.in_ok-space.ensures c.in_ok-a.ensures.ok c.write.ensures c.write-2.ensures c.write-3.ensures c.write-4.ensures in
    subst (λ (m : Memory). CanClear c.args.types.now 16 m (4294967299 ∷ 4294967296 ∷ []) (4294967296 ∷ 4294967299 ∷ []))
    (sym all) (two-clear c.args.types.now c.requires)
