use Rattle.collect_laws.proofs.BlockLaws.{step_block}
use Rattle.heap_core.proofs.BearLaws.{on_ok}
use Rattle.heap_core.proofs.RoomCalls.{can_step_after}
use Rattle.heap_core.proofs.collecting.make_block.Goals as goal

pub make_step-requires : goal.make_step-requires
make_step-requires c = can_step_after c.in_ok-make_minor.ensures c.requires

pub returns : goal.returns
returns c = on_ok c.make_step.result (λ stepped. step_block c.in_ok-make_minor.ensures stepped) c.make_step.ensures
