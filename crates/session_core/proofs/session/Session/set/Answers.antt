use Rattle.std.proofs.Common.{sym, subst}
use Rattle.object_model.specs.SettingRanges.{AreInRange}
use Rattle.session_core.proofs.Ranges.{setting_in_range}
use Rattle.session_core.proofs.session.Session.set.Goals as goal

pub invariant_of-self-2 : goal.invariant_of-self-2
invariant_of-self-2 c =
    (subst AreInRange (sym c.with_setting-self-inside.ensures) (setting_in_range c.self.inside.settings c.args.name c.args.value c.self.invariant.0 c.requires), c.self.invariant.1)
