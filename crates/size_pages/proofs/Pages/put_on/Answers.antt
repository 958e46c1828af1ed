use Rattle.std.proofs.Common.{refl}
use Rattle.size_pages.specs.Kinds.{kind_number}
use Rattle.size_pages.proofs.FitsLaws.{can_link, on_fits}
use Rattle.size_pages.proofs.Pages.put_on.Goals as goal

pub link-requires : goal.link-requires
link-requires c = can_link c.args.self.now c.args.space.now c.args.page c.args.list (kind_number c.args.kind) c.requires

pub returns-clause-on : goal.returns-clause-on
returns-clause-on c =
    on_fits c.args.self.now (record c.args.self.now { heads = c.link.new.heads }) c.args.space.now c.link.new.space c.args.page c.args.list (kind_number c.args.kind) c.requires c.link.ensures.links c.link.ensures.arenas
    (record { page = refl; pages_per_arena = refl; small = refl; count = refl; lowest = refl; waiting = refl; room = c.link.ensures.links.same_size; order = refl })
