use Rattle.session_core.proofs.Performing.{told}
use Rattle.session_core.proofs.commands.on_identity.Goals as goal

pub returns-in_ok-place-in-Place-clause-performs : goal.returns-in_ok-place-in-Place-clause-performs
returns-in_ok-place-in-Place-clause-performs c =
    told c.args.heap.now c.args.heap.now c.args.command.now _ c.args.out.now.items _ c.push_reserved-in-Place.new.self.items
    c.in-Place.is c.in_ok-place-in-Place.ensures.performs c.push_reserved-in-Place.ensures.items
