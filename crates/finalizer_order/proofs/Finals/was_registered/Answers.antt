use Rattle.std.proofs.Common.{ap, ◌∙◌}
use Rattle.finalizer_order.specs.Finalizers.{Finalizers, is_listed}
use Rattle.finalizer_order.proofs.Listing.{listed_is}
use Rattle.finalizer_order.proofs.Finals.was_registered.Goals as goal

pub returns : goal.returns
returns c = c.contains.ensures ∙ listed_is c.args.birth c.self.invariant ∙ ap (λ (f : Finalizers). is_listed f c.args.birth) c.self.view_is
