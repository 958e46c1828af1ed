use Rattle.std.proofs.Common.{◌≡◌, Some, IfSome, subst}
use Rattle.std.specs.FinMap as map
use Rattle.shadow_ids.proofs.MapLaws.{popped-home}
use Rattle.shadow_ids.proofs.Shadows.take_any.Goals as goal

pub returns-clause-home : goal.returns-clause-home
returns-clause-home c =
    subst (λ shadows. IfSome c.pop.result (λ pair. map.get shadows pair.0 ≡ Some pair.1)) c.self.view_is
    (popped-home c.self.inside.homes c.pop.new.self c.pop.result c.pop.ensures.entries c.pop.ensures.updates)
