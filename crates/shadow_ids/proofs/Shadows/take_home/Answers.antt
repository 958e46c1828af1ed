use Rattle.shadow_ids.proofs.MapLaws.{no-home, none-removed}
use Rattle.shadow_ids.proofs.Shadows.take_home.Goals as goal

pub returns-then-is_empty-clause-home : goal.returns-then-is_empty-clause-home
returns-then-is_empty-clause-home c = no-home c.self.inside.homes c.args.self.now c.args.a c.self.view_is (c.is_empty.ensures.0 c.if-is_empty.true)

pub returns-then-is_empty-clause-taken : goal.returns-then-is_empty-clause-taken
returns-then-is_empty-clause-taken c = none-removed c.self.inside.homes c.args.self.now c.args.a c.self.view_is (c.is_empty.ensures.0 c.if-is_empty.true)
