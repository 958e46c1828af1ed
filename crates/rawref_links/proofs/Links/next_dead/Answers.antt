use Rattle.std.proofs.Common.{◌∙◌, ap, sym, subst}
use Rattle.type_table.specs.Table.{with_value}
use Rattle.rawref_links.specs.Ties.{AreTied}
use Rattle.rawref_links.proofs.TieLaws.{AreTied-taken}
use Rattle.rawref_links.proofs.Links.next_dead.Goals as goal

pub invariant_of-self-2 : goal.invariant_of-self-2
invariant_of-self-2 c =
    subst (λ structs. AreTied structs c.self.inside.objects c.pop_front.new.self.items)
    (sym (c.set.ensures ∙ ap (with_value c.self.inside.structures c.in_ok-number.number) c.unlinked.ensures))
    (AreTied-taken c.self.inside.structures c.self.inside.objects c.in_ok-number.number 1 c.pop_front.new.self.items
    (subst (AreTied c.self.inside.structures c.self.inside.objects) c.in_ok-number.ensures.items c.self.invariant))
