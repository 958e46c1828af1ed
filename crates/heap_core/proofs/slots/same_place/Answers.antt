use Rattle.heap_core.proofs.SlotCalls.{same_does}
use Rattle.heap_core.proofs.slots.same_place.Goals as goal

pub returns : goal.returns
returns c = rw (c.place.ensures, c.place-2.ensures) (same_does c.args.parts.now c.args.a c.args.b)
