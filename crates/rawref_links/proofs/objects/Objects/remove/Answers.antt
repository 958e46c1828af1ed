use Rattle.std.proofs.Common.{ap, ◌∙◌}
use Rattle.type_table.specs.Table.{without_key}
use Rattle.rawref_links.proofs.Tabled.{tabled-remove, none-removed}
use Rattle.rawref_links.proofs.objects.Objects.remove.Goals as goal

pub returns : goal.returns
returns c =
    tabled-remove c.self.inside.links.entries c.swap_remove.new.self.entries c.args.place c.swap_remove.ensures.updates.0
    ∙ ap (λ t. without_key t c.args.place) c.self.view_is

pub returns-then-is_empty : goal.returns-then-is_empty
returns-then-is_empty c = none-removed c.self.inside.links.entries c.args.self.now c.args.place c.self.view_is (c.is_empty.ensures.0 c.if-is_empty.true)
