use Rattle.heap_core.proofs.TestStores.{joined, writes, relinks}
use Rattle.heap_core.proofs.tests.answers.Goals as goal

pub write_int-requires : goal.write_int-requires
write_int-requires c = (joined c.requires).can

pub write_ref-requires : goal.write_ref-requires
write_ref-requires c = (writes (joined c.requires) c.in_ok-write_int.ensures).can

pub get-requires : goal.get-requires
get-requires c = (relinks (writes (joined c.requires) c.in_ok-write_int.ensures) c.in_ok-write_ref.ensures).can.0

pub load-requires : goal.load-requires
load-requires c = (relinks (writes (joined c.requires) c.in_ok-write_int.ensures) c.in_ok-write_ref.ensures).can.1
