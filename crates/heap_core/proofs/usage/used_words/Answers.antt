use Rattle.heap_core.proofs.TellerLaws.{counted_small}
use Rattle.heap_core.proofs.UsageCalls.{husks_small, used_does}
use Rattle.heap_core.proofs.usage.used_words.Goals as goal

pub husk_words-husks-requires : goal.husk_words-husks-requires
husk_words-husks-requires c = husks_small c.args.parts.now c.requires.standing

pub counted_words-requires : goal.counted_words-requires
counted_words-requires c = counted_small c.args.parts.now c.requires.standing

pub returns : goal.returns
returns c = used_does c.args.parts.now c.counted_words.result c.husk_words-husks.result c.counted_words.ensures c.husk_words-husks.ensures
