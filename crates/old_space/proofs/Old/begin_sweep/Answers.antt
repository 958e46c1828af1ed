use Rattle.old_space.proofs.BeginLaws.{begun-last, kept-begun, outside-begun, pages-ready, larges-ready}
use Rattle.old_space.proofs.Old.begin_sweep.Goals as goal

pub begin_sweep-requires : goal.begin_sweep-requires
begin_sweep-requires c = pages-ready _ _ c.requires

pub begin_sweep-requires-2 : goal.begin_sweep-requires-2
begin_sweep-requires-2 c = larges-ready _ _ _ c.requires c.begin_sweep.ensures.arenas

pub returns-clause-begun : goal.returns-clause-begun
returns-clause-begun c = λ live h.
    let one = c.begin_sweep.ensures in let two = c.begin_sweep-2.ensures in
    begun-last _ _ _ _ _ _ live one.begun one.arenas one.sizes.small two.begun two.space h

pub returns-clause-stands : goal.returns-clause-stands
returns-clause-stands c =
    let one = c.begin_sweep.ensures in let two = c.begin_sweep-2.ensures in
    let begins = begun-last _ _ _ _ _ _ c.requires.live one.begun one.arenas one.sizes.small two.begun two.space c.requires.blocks in
    record { live = c.requires.live; waiting = begins.waiting; blocks = begins.blocks }

pub returns-clause-kept : goal.returns-clause-kept
returns-clause-kept c = λ live h.
    let one = c.begin_sweep.ensures in kept-begun c.args.self.now _ _ _ live one.kept one.arenas c.begin_sweep-2.ensures.space h

pub returns-clause-outside : goal.returns-clause-outside
returns-clause-outside c = outside-begun _ _ _ c.begin_sweep.ensures.arenas c.begin_sweep-2.ensures.space
