use Rattle.mark_steps.proofs.VisitStep.{has-first}
use Rattle.mark_steps.proofs.marking.visit.Goals as goal

pub read-header-requires : goal.read-header-requires
read-header-requires c = has-first c.args.space.now c.args.types.now c.args.a c.requires

pub write-requires : goal.write-requires
write-requires c = has-first c.args.space.now c.args.types.now c.args.a c.requires
