use Rattle.heap_core.proofs.tests.play_left.Goals as goal

pub words_collected-requires : goal.words_collected-requires
words_collected-requires c = c.in_ok-start_left.ensures
