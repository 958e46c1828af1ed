use Rattle.session_core.proofs.Performing.{quiet}
use Rattle.session_core.proofs.commands.on_finalizers.Goals as goal

pub returns-in-Register-clause-performs : goal.returns-in-Register-clause-performs
returns-in-Register-clause-performs c =
    quiet c.args.heap.now c.register.new.self c.args.command.now _ c.args.out.now.items c.register.result c.in-Register.is c.register.ensures.performs
