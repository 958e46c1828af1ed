use Rattle.heap_core.proofs.tests.play_types.Goals as goal

pub bear_old-requires : goal.bear_old-requires
bear_old-requires c = c.in_ok-start_tight.ensures

pub types_of_first-requires : goal.types_of_first-requires
types_of_first-requires c = c.in_ok-bear_old.ensures
