use Rattle.heap_core.proofs.RoomCalls.{can_collect}
use Rattle.heap_core.proofs.collecting.make_minor.Goals as goal

pub minor-requires : goal.minor-requires
minor-requires c = record { can = can_collect c.requires }
