use Rattle.object_header.proofs.WordLaws.{or_mask}
use Rattle.object_header.proofs.words.set.Goals as goal

pub returns : goal.returns
returns c = or_mask c.args.word c.mask.result c.args.flag c.mask.ensures
