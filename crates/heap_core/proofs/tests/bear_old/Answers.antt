use Rattle.heap_core.proofs.TestStores.{can_first_old, first_old, can_second_old, second_old}
use Rattle.heap_core.proofs.tests.bear_old.Goals as goal

pub new_fixed-requires : goal.new_fixed-requires
new_fixed-requires c = can_first_old c.requires

pub new_fixed-requires-2 : goal.new_fixed-requires-2
new_fixed-requires-2 c = can_second_old (first_old c.requires c.in_ok-new_fixed.ensures.answers)

pub returns : goal.returns
returns c = second_old (first_old c.requires c.in_ok-new_fixed.ensures.answers) c.in_ok-new_fixed-2.ensures.answers
