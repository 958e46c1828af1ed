use Rattle.std.proofs.Common.{◌∙◌}
use Rattle.remember_cards.proofs.SearchLaws.{found_among}
use Rattle.remember_cards.proofs.kept.is_dead.Goals as goal

pub returns : goal.returns
returns c = c.is_ok.ensures.value ∙ found_among c.args.dead.now c.args.place c.binary_search.result c.requires c.binary_search.ensures.position
