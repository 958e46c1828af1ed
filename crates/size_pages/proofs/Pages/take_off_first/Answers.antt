use Rattle.std.proofs.Common.{refl, ◌-◌}
use Rattle.size_pages.proofs.FitsLaws.{can_unlink_on, signs_on}
use Rattle.size_pages.proofs.RelistLaws.{first_on, first_off}
use Rattle.size_pages.proofs.Pages.take_off_first.Goals as goal

pub unlink-requires : goal.unlink-requires
unlink-requires c = can_unlink_on c.args.self.now c.args.space.now c.args.page 1 (first_on c.args.self.now c.args.space.now c.args.page c.requires)

pub returns-clause-off : goal.returns-clause-off
returns-clause-off c =
    first_off c.args.self.now (record c.args.self.now { heads = c.unlink.new.heads; waiting = c.args.self.now.waiting - 1 }) c.args.space.now c.unlink.new.space c.args.page c.requires c.unlink.ensures.unlinks c.unlink.ensures.arenas
    (record { page = refl; pages_per_arena = refl; small = refl; count = refl; lowest = refl; room = c.unlink.ensures.unlinks.same_size; order = refl }) refl

pub returns-clause-signs : goal.returns-clause-signs
returns-clause-signs c = signs_on c.args.self.now c.unlink.new.heads.items c.args.space.now c.unlink.new.space c.args.page 1 (first_on c.args.self.now c.args.space.now c.args.page c.requires) c.unlink.ensures.unlinks
