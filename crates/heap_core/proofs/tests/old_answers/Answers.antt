use Rattle.heap_core.proofs.TestStores.{can_write_old, written_old, can_relink_old, can_read_old}
use Rattle.heap_core.proofs.tests.old_answers.Goals as goal

pub write_int-requires : goal.write_int-requires
write_int-requires c = can_write_old c.requires

pub write_ref-requires : goal.write_ref-requires
write_ref-requires c = can_relink_old (written_old c.requires c.in_ok-write_int.ensures)

pub get-requires : goal.get-requires
get-requires c = (can_read_old (written_old c.requires c.in_ok-write_int.ensures) c.in_ok-write_ref.ensures).0

pub load-requires : goal.load-requires
load-requires c = (can_read_old (written_old c.requires c.in_ok-write_int.ensures) c.in_ok-write_ref.ensures).1
