use Rattle.std.proofs.Common.{◌≡◌, take}
use Rattle.object_header.specs.Words.{without_flag}
use Rattle.object_header.specs.declared.flags.Flag.TheVariants.{Order1}
use Rattle.finalizer_order.proofs.Objects.{changed}
use Rattle.finalizer_order.proofs.passes.set_chosen.Given as goal

abbrev pub invariant-loop-place : goal.invariant-loop-place
invariant-loop-place l = l.space ≡ changed (λ word. without_flag word Order1) (take l.place-index l.found) l.fn.space
