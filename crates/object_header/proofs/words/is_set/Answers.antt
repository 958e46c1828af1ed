use Rattle.object_header.proofs.WordLaws.{and_mask-has_flag}
use Rattle.object_header.proofs.words.is_set.Goals as goal

pub returns : goal.returns
returns c = and_mask-has_flag c.args.word c.mask.result c.args.flag c.mask.ensures
