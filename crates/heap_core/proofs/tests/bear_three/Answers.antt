use Rattle.heap_core.proofs.TestStores.{begun, first, second, third}
use Rattle.heap_core.proofs.tests.bear_three.Goals as goal

pub new_fixed-requires : goal.new_fixed-requires
new_fixed-requires c = (begun c.requires).can

pub new_fixed-requires-2 : goal.new_fixed-requires-2
new_fixed-requires-2 c = (first (begun c.requires) c.in_ok-new_fixed.ensures.answers).can

pub new_fixed-requires-3 : goal.new_fixed-requires-3
new_fixed-requires-3 c = (second (first (begun c.requires) c.in_ok-new_fixed.ensures.answers) c.in_ok-new_fixed-2.ensures.answers).can

pub returns : goal.returns
returns c =
    (third (second (first (begun c.requires) c.in_ok-new_fixed.ensures.answers) c.in_ok-new_fixed-2.ensures.answers) c.in_ok-new_fixed-3.ensures.answers).runs
