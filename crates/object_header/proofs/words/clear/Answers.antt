use Rattle.object_header.proofs.WordLaws.{and_not_mask}
use Rattle.object_header.proofs.words.clear.Goals as goal

pub returns : goal.returns
returns c = and_not_mask c.args.word c.mask.result c.args.flag c.ranges.word.fits c.mask.ensures
