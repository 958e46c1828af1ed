use Rattle.std.proofs.Common.{arith}
use Rattle.size_pages.proofs.PageSweepLaws.{heads_there, can_sweep_at, can_relist, page_swept, stands_swept}
use Rattle.size_pages.proofs.Pages.sweep_page.Goals as goal

pub first-page-requires : goal.first-page-requires
first-page-requires c = omega (arith, heads_there c.args.self.now c.args.space.now c.requires, c.args.self.now.heads.ok)

pub relist-requires : goal.relist-requires
relist-requires c =
    let is = c.first-page.ensures in
    can_relist c.args.self.now c.args.space.now c.sweep_blocks.new.space c.first-page.result (can_sweep_at c.args.self.now c.args.space.now c.first-page.result c.requires is) c.sweep_blocks.ensures

pub returns-clause-swept : goal.returns-clause-swept
returns-clause-swept c =
    let is = c.first-page.ensures in
    page_swept c.args.self.now c.relist.new.self c.args.space.now c.sweep_blocks.new.space c.relist.new.space c.first-page.result c.args.freed.now.items c.gather.new.freed.items is c.in_ok-gather.ensures.gathered c.sweep_blocks.ensures c.relist.ensures

pub returns-clause-stands : goal.returns-clause-stands
returns-clause-stands c =
    let is = c.first-page.ensures in
    stands_swept c.args.self.now c.relist.new.self c.args.space.now c.sweep_blocks.new.space c.relist.new.space c.first-page.result (can_sweep_at c.args.self.now c.args.space.now c.first-page.result c.requires is) c.sweep_blocks.ensures c.relist.ensures
