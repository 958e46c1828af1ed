use Rattle.session_core.proofs.Performing.{told, quiet}
use Rattle.session_core.proofs.commands.on_structs.Goals as goal

pub returns-in-MakeLink-clause-performs : goal.returns-in-MakeLink-clause-performs
returns-in-MakeLink-clause-performs c =
    quiet c.args.heap.now c.make_link.new.self c.args.command.now _ c.args.out.now.items c.make_link.result c.in-MakeLink.is c.make_link.ensures.performs

pub returns-in_ok-value-in-Count-clause-performs : goal.returns-in_ok-value-in-Count-clause-performs
returns-in_ok-value-in-Count-clause-performs c =
    told c.args.heap.now c.args.heap.now c.args.command.now _ c.args.out.now.items _ c.push_reserved-in-Count.new.self.items
    c.in-Count.is c.in_ok-value-in-Count.ensures.performs c.push_reserved-in-Count.ensures.items

pub returns-in_ok-number-in-FromObj-clause-performs : goal.returns-in_ok-number-in-FromObj-clause-performs
returns-in_ok-number-in-FromObj-clause-performs c =
    told c.args.heap.now c.args.heap.now c.args.command.now _ c.args.out.now.items _ c.push_reserved-in-FromObj.new.self.items
    c.in-FromObj.is c.in_ok-number-in-FromObj.ensures.performs c.push_reserved-in-FromObj.ensures.items
