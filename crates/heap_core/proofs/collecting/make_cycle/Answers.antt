use Rattle.std.proofs.Common.{sym, ◌∙◌}
use Rattle.collect_laws.proofs.CycleLaws.{so_far_begins, so_far_goes, so_far_ends, blocks_fall}
use Rattle.heap_core.proofs.RoomCalls.{standing_after, scanning_of, other_than_scanning}
use Rattle.heap_core.proofs.collecting.make_cycle.Goals as goal

pub cycle-init : goal.cycle-init
cycle-init c = so_far_begins c.in_ok-make_block.ensures

pub make_block-requires-in-cycle : goal.make_block-requires-in-cycle
make_block-requires-in-cycle c = standing_after c.cycle.invariant c.requires

pub cycle-smaller : goal.cycle-smaller
cycle-smaller c =
    blocks_fall c.cycle.invariant (other_than_scanning c.cycle.parts.phase (sym c.is_scanning.ensures ∙ c.cycle-test.true)) c.requires.store c.requires.stands c.in_ok-make_block-2.ensures

pub cycle-preserved : goal.cycle-preserved
cycle-preserved c =
    so_far_goes c.cycle.invariant (other_than_scanning c.cycle.parts.phase (sym c.is_scanning.ensures ∙ c.cycle-test.true)) c.in_ok-make_block-2.ensures

pub returns : goal.returns
returns c = so_far_ends c.cycle.invariant (scanning_of c.cycle.parts.phase (sym c.is_scanning.ensures ∙ c.cycle-test.false))
