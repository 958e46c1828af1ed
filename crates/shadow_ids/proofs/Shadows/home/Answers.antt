use Rattle.shadow_ids.proofs.MapLaws.{no-home}
use Rattle.shadow_ids.proofs.Shadows.home.Goals as goal

pub returns-then-is_empty : goal.returns-then-is_empty
returns-then-is_empty c = no-home c.self.inside.homes c.args.self.now c.args.a c.self.view_is (c.is_empty.ensures.0 c.if-is_empty.true)
