use Rattle.std.proofs.Common.{arith, ◌+◌, ◌*◌, ◌≤◌}
use Rattle.size_pages.specs.PageWords.{word_in}
use Rattle.size_pages.proofs.GatherLaws.{swept_page, slot_in, slots_end}
use Rattle.size_pages.proofs.SweepLaws.{swept_none, can_sweep_slot, slot_swept, swept_all}
use Rattle.size_pages.proofs.Pages.sweep_blocks.Goals as goal

pub class-class-requires : goal.class-class-requires
class-class-requires c = let g = swept_page c.args.self.now c.args.space.now c.args.page c.requires in let wide : 64 ≤ c.args.self.now.page = g.wide in g.all c.args.page (omega arith) (omega arith)

pub slots-count-requires-clause-header : goal.slots-count-requires-clause-header
slots-count-requires-clause-header c b low high = let g = swept_page c.args.self.now c.args.space.now c.args.page c.requires in let wide : 64 ≤ c.args.self.now.page = g.wide in g.all b low (omega arith)

pub slots-count-requires-clause-class : goal.slots-count-requires-clause-class
slots-count-requires-clause-class c = let g = swept_page c.args.self.now c.args.space.now c.args.page c.requires in let two : 2 ≤ word_in c.args.space.now c.args.page = g.slots.words in omega (arith, c.class-class.ensures)

pub slots-count-requires-clause-fresh : goal.slots-count-requires-clause-fresh
slots-count-requires-clause-fresh c = (swept_page c.args.self.now c.args.space.now c.args.page c.requires).slots.fresh_low

pub loop-slot-init : goal.loop-slot-init
loop-slot-init c = swept_none c.args.self.now c.args.space.now c.args.page c.class-class.result c.requires c.class-class.ensures

pub sweep_slot-requires : goal.sweep_slot-requires
sweep_slot-requires c = can_sweep_slot c.args.self.now c.args.space.now c.loop-slot.space c.args.page c.class-class.result c.requires c.class-class.ensures c.loop-slot.slot (slot_in c.args.self.now c.args.space.now c.args.page c.class-class.result c.slots-count.result c.requires c.class-class.ensures c.slots-count.ensures c.loop-slot.slot c.loop-slot-test.true) c.loop-slot.invariant

pub loop-slot-preserved : goal.loop-slot-preserved
loop-slot-preserved c =
    slot_swept c.args.self.now c.args.space.now c.loop-slot.space c.args.page c.class-class.result c.requires c.class-class.ensures c.loop-slot.slot (slot_in c.args.self.now c.args.space.now c.args.page c.class-class.result c.slots-count.result c.requires c.class-class.ensures c.slots-count.ensures c.loop-slot.slot c.loop-slot-test.true) c.loop-slot.invariant c.sweep_slot.new.space c.sweep_slot.ensures.swept c.sweep_slot.ensures.arenas

pub returns : goal.returns
returns c =
    swept_all c.args.self.now c.args.space.now c.loop-slot.space c.args.page (c.args.page + 8 + c.loop-slot.slot * c.class-class.result) c.class-class.result c.requires c.class-class.ensures
    (slots_end c.args.self.now c.args.space.now c.args.page c.class-class.result c.slots-count.result c.requires c.class-class.ensures c.slots-count.ensures c.loop-slot.slot (omega (arith, c.loop-slot-test.false, c.loop-slot.auto.slot-end))) c.loop-slot.invariant
