use Rattle.std.proofs.Common.{◌∙◌, sym}
use Rattle.script_gen.proofs.AheadLaws.{header-next, header-lined}
use Rattle.script_gen.proofs.items.Generator.next.Goals as goal

pub returns-then-self-lt-HEADER-clause-ahead : goal.returns-then-self-lt-HEADER-clause-ahead
returns-then-self-lt-HEADER-clause-ahead c =
    sym c.self.view_is ∙ header-next c.self.inside.given c.self.inside.commands c.header_item-item.result c.if-self-lt-HEADER.true c.header_item-item.ensures

pub returns-then-self-lt-HEADER-clause-lined : goal.returns-then-self-lt-HEADER-clause-lined
returns-then-self-lt-HEADER-clause-lined c = header-lined c.self.inside.given c.header_item-item.result c.if-self-lt-HEADER.true c.header_item-item.ensures
