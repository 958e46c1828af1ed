use Rattle.std.proofs.Common.{[], ◌∷◌}
use Rattle.list_tests.proofs.TwoWeak.{first-clear}
use Rattle.list_tests.proofs.weaks.what_is_dead_loses_no_target.Goals as goal

pub after_marking-requires : goal.after_marking-requires
after_marking-requires g c =
    first-clear c.in_ok-types.types c.in_ok-nursery.nursery c.in_ok-space.space c.in_ok-weaks.weaks c.add.new.self c.add-2.new.self c.drop_dead.new.self (4294967296 ∷ 4294967299 ∷ [])
    c.in_ok-space.ensures c.in_ok-nursery.ensures.made c.in_ok-weaks.ensures c.in_ok-add.ensures.ok c.in_ok-add-2.ensures.ok c.drop_dead.ensures
