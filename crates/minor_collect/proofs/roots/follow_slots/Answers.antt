use Rattle.std.proofs.Common.{rules}
use Rattle.minor_collect.proofs.SlotSteps.{slots_few, slots_begin, slot_can, slots_next, slots_end}
use Rattle.minor_collect.proofs.roots.follow_slots.Goals as goal

pub slot_count-root-end-requires : goal.slot_count-root-end-requires
slot_count-root-end-requires c = slots_few c.args.parts.now c.args.moving.now c.requires

pub loop-root-init : goal.loop-root-init
loop-root-init c = slots_begin c.args.parts.now c.args.moving.now

pub follow_slot-requires : goal.follow_slot-requires
follow_slot-requires c = slot_can c.requires c.loop-root.invariant (search (rules, c.loop-root-test.true, c.slot_count-root-end.ensures))

pub loop-root-preserved : goal.loop-root-preserved
loop-root-preserved c = slots_next c.loop-root.invariant (search (rules, c.loop-root-test.true, c.slot_count-root-end.ensures)) c.in_ok-follow_slot.ensures

pub returns : goal.returns
returns c = λ stage spot standing. slots_end c.loop-root.invariant (search (rules, c.loop-root-test.false, c.slot_count-root-end.ensures)) stage spot standing
