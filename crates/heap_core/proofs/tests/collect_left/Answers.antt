use Rattle.heap_core.proofs.TestStores.{can_collect_left, collected}
use Rattle.heap_core.proofs.tests.collect_left.Goals as goal

pub collect-requires : goal.collect-requires
collect-requires c = can_collect_left c.requires

pub returns : goal.returns
returns c = collected c.requires c.in_ok-collect.ensures.performs
