use Rattle.std.proofs.Common.{refl, sym, ◌∙◌}
use Rattle.collect_laws.proofs.BlockLaws.{block_comes, no_block}
use Rattle.heap_core.proofs.BearLaws.{on_ok, on_err}
use Rattle.heap_core.proofs.RoomCalls.{never_both}
use Rattle.heap_core.proofs.collecting.make_nursery_room.Goals as goal

pub returns-then-needs_block-clause-makes : goal.returns-then-needs_block-clause-makes
returns-then-needs_block-clause-makes c =
    on_ok c.make_due_block.result (λ block. block_comes c.args.words (sym c.needs_block.ensures ∙ c.if-needs_block.true) block) c.make_due_block.ensures

pub returns-then-needs_block-clause-due : goal.returns-then-needs_block-clause-due
returns-then-needs_block-clause-due c = on_err c.make_due_block.result (sym c.needs_block.ensures ∙ c.if-needs_block.true)

pub returns-then-needs_block-clause-same : goal.returns-then-needs_block-clause-same
returns-then-needs_block-clause-same c = λ unneeded. absurd (never_both (sym c.needs_block.ensures ∙ c.if-needs_block.true) unneeded)

pub returns-clause-makes : goal.returns-clause-makes
returns-clause-makes c = no_block c.args.words (sym c.needs_block.ensures ∙ c.if-needs_block.false) refl refl
