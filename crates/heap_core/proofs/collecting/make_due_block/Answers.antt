use Rattle.std.proofs.Common.{sym, ◌∙◌}
use Rattle.collect_laws.proofs.BlockLaws.{due_block, minor_block}
use Rattle.heap_core.proofs.BearLaws.{on_ok}
use Rattle.heap_core.proofs.RoomCalls.{can_step_after}
use Rattle.heap_core.proofs.collecting.make_due_block.Goals as goal

pub make_step-requires : goal.make_step-requires
make_step-requires c = can_step_after c.in_ok-make_minor.ensures c.requires

pub returns-then-is_step_due : goal.returns-then-is_step_due
returns-then-is_step_due c =
    on_ok c.make_step.result (λ stepped. due_block c.in_ok-make_minor.ensures (sym c.is_step_due.ensures ∙ c.if-is_step_due.true) stepped) c.make_step.ensures

pub returns : goal.returns
returns c = minor_block c.in_ok-make_minor.ensures (sym c.is_step_due.ensures ∙ c.if-is_step_due.false)
