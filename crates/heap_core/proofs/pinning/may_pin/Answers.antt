use Rattle.heap_core.proofs.PinReady.{pin_ready}
use Rattle.heap_core.proofs.pinning.may_pin.Goals as goal

pub kind-requires : goal.kind-requires
kind-requires c = λ full. (pin_ready c.args.parts.now c.args.root c.requires).object.object
