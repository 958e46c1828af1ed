use Rattle.std.proofs.Common.{◌+◌}
use Rattle.size_pages.proofs.FitsLaws.{header_has, places_of, below_of}
use Rattle.size_pages.proofs.EndLaws.{same_block}
use Rattle.size_pages.proofs.AroundLaws.{gives_last}
use Rattle.size_pages.proofs.ArenaLaws.{all_after}
use Rattle.size_pages.proofs.Pages.end_page.Goals as goal

pub lower-requires-clause-page : goal.lower-requires-clause-page
lower-requires-clause-page c = (same_block c.args.self.now c.take_off.new.self c.args.page c.args.a c.args.n c.take_off.ensures.heads c.requires.block).page

pub clear_page-requires : goal.clear_page-requires
clear_page-requires c =
    let f = c.requires.live.fits in
    all_after c.args.space.now c.take_off.new.space c.args.page (c.args.page + 8) c.take_off.ensures.arenas (header_has c.args.space.now c.args.self.now.page c.args.self.now.count c.args.page f.blocks.size_low (places_of f) (below_of f) c.requires.block.page)

pub returns : goal.returns
returns c =
    gives_last c.args.self.now c.take_off.new.self c.lower.new.self c.args.space.now c.take_off.new.space c.clear_page.new.space c.args.page c.args.a c.args.n c.args.list c.requires c.take_off.ensures.off c.take_off.ensures.unlinks c.take_off.ensures.signs c.take_off.ensures.heads c.take_off.ensures.arenas c.lower.ensures c.clear_page.ensures.clears c.clear_page.ensures.arenas
