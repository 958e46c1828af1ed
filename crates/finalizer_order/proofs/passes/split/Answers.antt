use Rattle.finalizer_order.proofs.Entries.{place-listed}
use Rattle.finalizer_order.proofs.passes.split.Goals as goal

pub is_chosen-requires : goal.is_chosen-requires
is_chosen-requires c = λ out. c.requires _ (place-listed c.args.registered.now c.loop-entry.entry-index (record { place = 0; birth = 0; queue = 0 }) c.loop-entry-test.true) out
