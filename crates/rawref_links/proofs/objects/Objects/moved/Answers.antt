use Rattle.std.proofs.Common.{sym, ap, ◌∙◌}
use Rattle.rawref_links.specs.Objects.{tabled}
use Rattle.rawref_links.proofs.Tabled.{moved-map, stays-map, none-moved}
use Rattle.rawref_links.proofs.objects.Objects.moved.Goals as goal

pub returns-then-not-contains_key-clause-ok : goal.returns-then-not-contains_key-clause-ok
returns-then-not-contains_key-clause-ok c =
    stays-map c.self.inside.links.entries c.args.self.now c.self.view_is c.args.from c.args.to (sym c.if-not-contains_key.ensures)

pub returns-clause-ok : goal.returns-clause-ok
returns-clause-ok c =
    moved-map c.reserve.new.self.entries c.swap_remove.new.self.entries c.insert.new.self.entries c.args.self.now
    (ap tabled c.reserve.ensures.entries ∙ c.self.view_is) c.args.from c.args.to c.unwrap-links.result
    (sym c.swap_remove.ensures.value ∙ c.unwrap-links.ensures) c.swap_remove.ensures.updates.0
    (rw c.unwrap.ensures at c.insert.ensures.updates).0

pub returns-then-is_empty-clause-ok : goal.returns-then-is_empty-clause-ok
returns-then-is_empty-clause-ok c = none-moved c.self.inside.links.entries c.args.self.now c.args.from c.args.to c.self.view_is (c.is_empty.ensures.0 c.if-is_empty.true)
