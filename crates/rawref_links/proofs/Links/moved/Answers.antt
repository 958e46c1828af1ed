use Rattle.std.proofs.Common.{ap}
use Rattle.rawref_links.proofs.MoveTies.{structs-moved, tied-moved}
use Rattle.rawref_links.proofs.Links.moved.Goals as goal

pub invariant_of-self-2 : goal.invariant_of-self-2
invariant_of-self-2 c =
    tied-moved c.self.inside.structures c.args.self.now.structs c.move_all.new.structures c.self.inside.objects c.moved.new.self c.self.inside.dead.items
    c.numbers.result.now c.args.from c.args.to c.self.invariant (ap (λ s. s.structs) c.self.view_is) c.requires c.in_ok-moved.ensures.ok c.numbers.ensures c.move_all.ensures

pub returns-clause-ok : goal.returns-clause-ok
returns-clause-ok c =
    let structs = structs-moved c.self.inside.structures c.args.self.now.structs c.move_all.new.structures c.self.inside.objects c.moved.new.self c.self.inside.dead.items
    c.numbers.result.now c.args.from c.args.to c.self.invariant (ap (λ s. s.structs) c.self.view_is) c.requires c.in_ok-moved.ensures.ok c.numbers.ensures c.move_all.ensures
    in
    λ i. record { structs = structs i; dead = (c.self.view_is i).dead }
