use Rattle.heap_core.proofs.tests.words_answered.Goals as goal

pub bear_old-requires : goal.bear_old-requires
bear_old-requires c = c.in_ok-start_tight.ensures

pub old_answers-requires : goal.old_answers-requires
old_answers-requires c = c.in_ok-bear_old.ensures
