use Rattle.std.proofs.Common.{refl}
use Rattle.size_pages.proofs.FitsLaws.{can_unlink, off_fits, off_signs}
use Rattle.size_pages.proofs.Pages.take_off.Goals as goal

pub unlink-requires : goal.unlink-requires
unlink-requires c = can_unlink c.args.self.now c.args.space.now c.args.page c.args.list c.requires

pub returns-clause-off : goal.returns-clause-off
returns-clause-off c =
    off_fits c.args.self.now (record c.args.self.now { heads = c.unlink.new.heads }) c.args.space.now c.unlink.new.space c.args.page c.args.list c.requires c.unlink.ensures.unlinks c.unlink.ensures.arenas
    (record { page = refl; pages_per_arena = refl; small = refl; count = refl; lowest = refl; waiting = refl; room = c.unlink.ensures.unlinks.same_size; order = refl })

pub returns-clause-signs : goal.returns-clause-signs
returns-clause-signs c = off_signs c.args.self.now c.unlink.new.heads.items c.args.space.now c.unlink.new.space c.args.page c.args.list c.requires c.unlink.ensures.unlinks
