use Rattle.heap_core.proofs.tests.words_collected.Goals as goal

pub collect_left-requires : goal.collect_left-requires
collect_left-requires c = c.requires
