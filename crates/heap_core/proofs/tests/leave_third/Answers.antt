use Rattle.heap_core.proofs.TestStores.{can_third_old, third_old, can_hold_old, hold_old, can_drop_second, drop_second, can_drop_third, drop_third}
use Rattle.heap_core.proofs.tests.leave_third.Goals as goal

pub new_fixed-requires : goal.new_fixed-requires
new_fixed-requires c = can_third_old c.requires

pub write_ref-requires : goal.write_ref-requires
write_ref-requires c = can_hold_old (third_old c.requires c.in_ok-new_fixed.ensures.answers)

pub drop_root-requires : goal.drop_root-requires
drop_root-requires c = can_drop_second (hold_old (third_old c.requires c.in_ok-new_fixed.ensures.answers) c.in_ok-write_ref.ensures)

pub drop_root-requires-2 : goal.drop_root-requires-2
drop_root-requires-2 c = can_drop_third (drop_second (hold_old (third_old c.requires c.in_ok-new_fixed.ensures.answers) c.in_ok-write_ref.ensures) c.drop_root.ensures.performs)

pub returns : goal.returns
returns c =
    drop_third (drop_second (hold_old (third_old c.requires c.in_ok-new_fixed.ensures.answers) c.in_ok-write_ref.ensures) c.drop_root.ensures.performs)
    c.drop_root-2.ensures.performs
