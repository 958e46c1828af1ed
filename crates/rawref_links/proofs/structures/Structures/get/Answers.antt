use Rattle.std.proofs.Common.{sym, ◌∙◌, Some, None}
use Rattle.rawref_links.proofs.Keyed.{value_at-seen}
use Rattle.rawref_links.proofs.structures.Structures.get.Goals as goal

pub returns-in-Some : goal.returns-in-Some
returns-in-Some c =
    c.copied.ensures ∙ c.get-in-Some.ensures
    ∙ value_at-seen c.self.inside.slots.slots c.self.inside.keys.entries c.args.self.now c.self.view_is c.args.number (Some c.in-Some.key.now) (sym c.in-Some.ensures.value)

pub returns-in-None : goal.returns-in-None
returns-in-None c =
    value_at-seen c.self.inside.slots.slots c.self.inside.keys.entries c.args.self.now c.self.view_is c.args.number None (sym c.in-None.ensures.value)
