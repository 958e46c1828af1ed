use Rattle.heap_core.proofs.TestStores.{started}
use Rattle.heap_core.proofs.tests.play.Goals as goal

pub link_first-requires : goal.link_first-requires
link_first-requires c = (started c.in_ok-types.ensures c.in_ok-start.ensures.started c.in_ok-start.ensures.empty).runs

pub answers-requires : goal.answers-requires
answers-requires c = c.in_ok-link_first.ensures
