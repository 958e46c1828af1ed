use Rattle.heap_core.proofs.TestStores.{grown, links}
use Rattle.heap_core.proofs.tests.link_first.Goals as goal

pub bear_three-requires : goal.bear_three-requires
bear_three-requires c = c.requires

pub link-requires : goal.link-requires
link-requires c = (grown c.in_ok-bear_three.ensures).can

pub returns : goal.returns
returns c = (links (grown c.in_ok-bear_three.ensures) c.in_ok-link.ensures.performs).runs
