use Rattle.size_pages.proofs.TakeLaws.{can_take}
use Rattle.size_pages.proofs.ListedLaws.{can_take_open, takes_listed}
use Rattle.size_pages.proofs.Pages.take_listed.Goals as goal

pub take_from-requires : goal.take_from-requires
take_from-requires c = can_take c.args.self.now c.args.space.now c.args.page c.args.n (can_take_open c.args.self.now c.args.space.now c.args.page c.args.n c.requires.listed c.requires.low c.requires.small)

pub returns : goal.returns
returns c =
    takes_listed c.args.self.now c.args.space.now c.take_from.new.space c.args.page c.args.n c.take_from.result c.requires
    (record { chained = c.take_from.ensures.chained; fresh = c.take_from.ensures.fresh }) c.take_from.ensures.arenas
