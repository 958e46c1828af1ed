use Rattle.std.proofs.Common.{◌∙◌, ap, sym, subst}
use Rattle.type_table.specs.Table.{with_value}
use Rattle.rawref_links.specs.Ties.{AreTied}
use Rattle.rawref_links.proofs.TieLaws.{AreTied-raised}
use Rattle.rawref_links.proofs.Links.inc.Goals as goal

pub invariant_of-self : goal.invariant_of-self
invariant_of-self c =
    subst (λ structs. AreTied structs c.self.inside.objects c.self.inside.dead.items)
    (sym (c.set.ensures ∙ ap (with_value c.self.inside.structures c.args.number) c.raised.ensures))
    (AreTied-raised c.self.inside.structures c.args.self.now.structs c.self.inside.objects c.self.inside.dead.items c.args.number c.unwrap-structure.result
    c.self.invariant (ap (λ s. s.structs) c.self.view_is) (sym c.get.ensures ∙ c.unwrap-structure.ensures))
