use Rattle.std.proofs.Common.{refl, ◌+◌}
use Rattle.size_pages.proofs.QueueLaws.{can_link_waiting, wait_fits}
use Rattle.size_pages.proofs.Pages.put_waiting.Goals as goal

pub link-requires : goal.link-requires
link-requires c = can_link_waiting c.args.self.now c.args.space.now c.args.page c.requires

pub returns-clause-on : goal.returns-clause-on
returns-clause-on c =
    wait_fits c.args.self.now (record c.args.self.now { heads = c.link.new.heads; waiting = c.args.self.now.waiting + 1 }) c.args.space.now c.link.new.space c.args.page c.requires c.link.ensures.links c.link.ensures.arenas
    (record { page = refl; pages_per_arena = refl; small = refl; count = refl; lowest = refl; room = c.link.ensures.links.same_size; order = refl }) refl
