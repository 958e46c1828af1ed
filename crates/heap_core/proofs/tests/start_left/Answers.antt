use Rattle.heap_core.proofs.tests.start_left.Goals as goal

pub bear_old-requires : goal.bear_old-requires
bear_old-requires c = c.in_ok-start_tight.ensures

pub leave_third-requires : goal.leave_third-requires
leave_third-requires c = c.in_ok-bear_old.ensures

pub returns : goal.returns
returns c = c.in_ok-leave_third.ensures
