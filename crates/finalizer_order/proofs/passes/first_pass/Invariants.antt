use Rattle.std.proofs.Common.{take}
use Rattle.finalizer_order.specs.Finalizers.{places_of}
use Rattle.finalizer_order.specs.Passes.{PassesFirst}
use Rattle.finalizer_order.proofs.passes.first_pass.Given as goal

abbrev pub invariant-loop-entry : goal.invariant-loop-entry
invariant-loop-entry l = PassesFirst l.types l.nursery.words l.fn.space l.space (places_of (take l.entry-index l.registered)) l.marked.items l.candidates.items
