use Rattle.old_space.proofs.WaitLaws.{page-waits, large-waits, begins-small, begins-large, begins-low}
use Rattle.old_space.proofs.Old.waits.Goals as goal

pub waits-requires : goal.waits-requires
waits-requires c = begins-small _ _ _ c.if-a-lt-FIRST_LARGE.true c.requires

pub waits-requires-else-a-lt-FIRST_LARGE : goal.waits-requires-else-a-lt-FIRST_LARGE
waits-requires-else-a-lt-FIRST_LARGE c = begins-large _ _ _ c.if-a-lt-FIRST_LARGE.false c.requires

pub returns-then-a-lt-FIRST_LARGE : goal.returns-then-a-lt-FIRST_LARGE
returns-then-a-lt-FIRST_LARGE c = λ live waiting h.
    page-waits c.args.self.now c.args.space.now c.args.a c.waits.result live waiting c.if-a-lt-FIRST_LARGE.true (begins-low _ _ _ c.requires) h
    (c.waits.ensures h.small h.waiting_pages h.in_pages)

pub returns-else-a-lt-FIRST_LARGE : goal.returns-else-a-lt-FIRST_LARGE
returns-else-a-lt-FIRST_LARGE c = λ live waiting h.
    large-waits c.args.self.now c.args.space.now c.args.a c.waits-else-a-lt-FIRST_LARGE.result live waiting c.if-a-lt-FIRST_LARGE.false h
    (c.waits-else-a-lt-FIRST_LARGE.ensures h.large h.waiting_blocks h.in_larges)
