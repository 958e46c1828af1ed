use Rattle.std.proofs.Common.{◌∙◌, ap, sym, subst}
use Rattle.store_model.specs.Structs.{with_struct}
use Rattle.rawref_links.specs.Ties.{AreTied}
use Rattle.rawref_links.proofs.TieLaws.{AreTied-lowered}
use Rattle.rawref_links.proofs.Links.dec.Goals as goal

pub invariant_of-self : goal.invariant_of-self
invariant_of-self c =
    subst (λ structs. AreTied structs c.self.inside.objects c.self.inside.dead.items)
    (ap (with_struct c.self.inside.structures c.args.number) (sym c.in-Some.ensures) ∙ sym c.set.ensures)
    (AreTied-lowered c.self.inside.structures c.args.self.now.structs c.self.inside.objects c.self.inside.dead.items c.args.number c.unwrap-structure.result
    c.self.invariant (ap (λ s. s.structs) c.self.view_is) (sym c.get.ensures ∙ c.unwrap-structure.ensures) c.requires)

pub invariant_of-self-in-None : goal.invariant_of-self-in-None
invariant_of-self-in-None c =
    subst (λ structs. AreTied structs c.self.inside.objects c.self.inside.dead.items)
    (ap (with_struct c.self.inside.structures c.args.number) (sym c.in-None.ensures) ∙ sym c.remove.ensures)
    (AreTied-lowered c.self.inside.structures c.args.self.now.structs c.self.inside.objects c.self.inside.dead.items c.args.number c.unwrap-structure.result
    c.self.invariant (ap (λ s. s.structs) c.self.view_is) (sym c.get.ensures ∙ c.unwrap-structure.ensures) c.requires)
