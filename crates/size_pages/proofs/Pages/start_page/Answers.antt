use Rattle.size_pages.proofs.BeginLaws.{can_begin, begins}
use Rattle.size_pages.proofs.Pages.start_page.Goals as goal

pub begin_page-requires : goal.begin_page-requires
begin_page-requires c = can_begin c.args.self.now c.make_unused.new.self c.args.space.now c.make_unused.new.space c.args.n c.requires.stands c.requires.n.0 c.requires.n.1 c.in_ok-make_unused.ensures.ok

pub returns-clause-begun : goal.returns-clause-begun
returns-clause-begun c =
    begins c.args.self.now c.make_unused.new.self c.args.space.now c.make_unused.new.space c.begin_page.new.space c.begin_page.result c.args.n c.requires.stands c.requires.n.0 c.requires.n.1 c.in_ok-make_unused.ensures.ok c.begin_page.ensures.page c.begin_page.ensures.starts c.begin_page.ensures.arenas
