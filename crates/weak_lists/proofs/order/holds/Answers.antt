use Rattle.std.proofs.Common.{◌∙◌}
use Rattle.weak_lists.proofs.RisingLaws.{found-in}
use Rattle.weak_lists.proofs.order.holds.Goals as goal

pub returns : goal.returns
returns c = c.is_ok.ensures.value ∙ found-in c.args.rising.now c.args.a c.binary_search.result c.requires c.binary_search.ensures.position
