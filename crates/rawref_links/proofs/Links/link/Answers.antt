use Rattle.std.proofs.Common.{ap, sym, subst, ◌∙◌}
use Rattle.rawref_links.specs.Ties.{AreTied}
use Rattle.rawref_links.proofs.TieLaws.{there_after, taken_back, AreTied-link}
use Rattle.rawref_links.proofs.Links.link.Goals as goal

pub remove-requires : goal.remove-requires
remove-requires c =
    there_after c.self.inside.structures c.args.self.now.structs c.add.new.self c.self.inside.objects c.self.inside.dead.items
    c.args.p c.args.light c.args.number c.args.a c.args.own c.linked.result c.self.invariant (ap (λ s. s.structs) c.self.view_is) c.requires.absent c.in_ok-add.ensures.ok

pub invariant_of-self-in-Err : goal.invariant_of-self-in-Err
invariant_of-self-in-Err c =
    let back = taken_back c.self.inside.structures c.args.self.now.structs c.add.new.self c.self.inside.objects c.self.inside.dead.items
    c.args.p c.args.light c.args.number c.args.a c.args.own c.linked.result c.self.invariant (ap (λ s. s.structs) c.self.view_is) c.requires.absent c.in_ok-add.ensures.ok
    in
    rw (c.remove.ensures, back, c.in-Err.ensures.err) c.self.invariant

pub returns-in-Err-clause-err : goal.returns-in-Err-clause-err
returns-in-Err-clause-err c =
    let back = taken_back c.self.inside.structures c.args.self.now.structs c.add.new.self c.self.inside.objects c.self.inside.dead.items
    c.args.p c.args.light c.args.number c.args.a c.args.own c.linked.result c.self.invariant (ap (λ s. s.structs) c.self.view_is) c.requires.absent c.in_ok-add.ensures.ok
    in
    let structs = c.remove.ensures ∙ back in
    (λ i. record { structs = structs i; dead = c.self.inside.dead.items }) ∙ c.self.view_is

pub invariant_of-self-in_default : goal.invariant_of-self-in_default
invariant_of-self-in_default c =
    subst (λ objects. AreTied c.add.new.self objects c.self.inside.dead.items) (sym c.in_default.ensures.ok)
    (AreTied-link c.self.inside.structures c.args.self.now.structs c.add.new.self c.self.inside.objects c.self.inside.dead.items
    c.args.p c.args.light c.args.number c.args.a c.args.own c.linked.result c.self.invariant (ap (λ s. s.structs) c.self.view_is) c.requires.absent c.in_ok-add.ensures.ok
    c.linked.ensures c.requires.one)
