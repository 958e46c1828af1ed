use Rattle.std.proofs.Common.{refl}
use Rattle.size_pages.proofs.BeginLaws.{begin_header}
use Rattle.size_pages.proofs.Pages.begin_page.Goals as goal

pub start_class-requires : goal.start_class-requires
start_class-requires c = begin_header c.args.self.now c.args.space.now c.args.n _ c.requires refl
