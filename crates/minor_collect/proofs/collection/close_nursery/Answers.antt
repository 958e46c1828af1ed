use Rattle.std.proofs.Common.{refl, sym, subst}
use Rattle.heap_parts.specs.contracts.parts.Parts.{the_view}
use Rattle.minor_collect.specs.Remade.{Remakes}
use Rattle.minor_collect.proofs.collection.close_nursery.Goals as goal

pub returns : goal.returns
returns c = record { remade = the_view c.parts.inside; remakes = subst (Remakes c.args.parts.now) (sym c.parts.view_is) c.in_ok-remake_nursery.ensures; is = refl }
