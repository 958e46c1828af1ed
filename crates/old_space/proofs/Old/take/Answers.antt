use Rattle.old_space.proofs.Narrow.{outside-pages, outside-larges}
use Rattle.old_space.specs.declared.Old.{Old}
use Rattle.old_space.proofs.ElsewhereLaws.{small-elsewhere, large-elsewhere}
use Rattle.old_space.proofs.CallLaws.{kept-small, kept-large}
use Rattle.old_space.proofs.TakeLaws.{small-ok, small-err, small-stands, small-from, large-ok, large-err, large-stands, large-from, large-arenas}
use Rattle.old_space.proofs.Old.take.Goals as goal

pub returns-then-n-self-clause-taken : goal.returns-then-n-self-clause-taken
returns-then-n-self-clause-taken c = λ live waiting h. small-ok _ _ _ _ _ _ live waiting c.take.ensures.taken c.take.ensures.outside c.take.ensures.sizes.small h

pub returns-then-n-self-clause-err : goal.returns-then-n-self-clause-err
returns-then-n-self-clause-err c = λ live waiting h. small-err _ _ _ _ _ live waiting c.take.ensures.err_blocks c.take.ensures.outside c.take.ensures.sizes.small h

pub returns-then-n-self-clause-stands : goal.returns-then-n-self-clause-stands
returns-then-n-self-clause-stands c =
    small-stands _ _ _ _ c.args.n c.take.result c.requires.stands c.take.ensures.taken c.take.ensures.err_blocks c.take.ensures.outside c.take.ensures.sizes.small

pub returns-then-n-self-clause-from : goal.returns-then-n-self-clause-from
returns-then-n-self-clause-from c =
    small-from _ _ _ _ c.args.n c.take.result c.requires.stands c.if-n-self.true c.take.ensures.taken

pub returns-then-n-self-clause-kept : goal.returns-then-n-self-clause-kept
returns-then-n-self-clause-kept c = λ live waiting h.
    kept-small c.args.self.now c.args.space.now c.take.new.space live waiting h (c.take.ensures.kept h.small h.waiting_pages h.in_pages) c.take.ensures.outside

pub returns-then-n-self-clause-outside : goal.returns-then-n-self-clause-outside
returns-then-n-self-clause-outside c = outside-pages _ _ c.take.ensures.outside

pub returns-else-n-self-clause-taken : goal.returns-else-n-self-clause-taken
returns-else-n-self-clause-taken c = λ live waiting h.
    large-ok _ _ _ _ _ _ live waiting c.take-else-n-self.ensures.taken c.take-else-n-self.ensures.outside c.take-else-n-self.ensures.place h

pub returns-else-n-self-clause-err : goal.returns-else-n-self-clause-err
returns-else-n-self-clause-err c = λ live waiting h.
    large-err _ _ _ _ _ live waiting c.take-else-n-self.ensures.err c.take-else-n-self.ensures.outside c.take-else-n-self.ensures.same h

pub returns-else-n-self-clause-stands : goal.returns-else-n-self-clause-stands
returns-else-n-self-clause-stands c =
    large-stands _ _ _ _ c.args.n c.take-else-n-self.result c.requires.stands c.take-else-n-self.ensures.taken c.take-else-n-self.ensures.err
    c.take-else-n-self.ensures.outside c.take-else-n-self.ensures.place c.take-else-n-self.ensures.same

pub returns-else-n-self-clause-from : goal.returns-else-n-self-clause-from
returns-else-n-self-clause-from c =
    large-from _ _ _ _ c.args.n c.take-else-n-self.result c.requires.stands c.if-n-self.false c.take-else-n-self.ensures.taken

pub returns-else-n-self-clause-kept : goal.returns-else-n-self-clause-kept
returns-else-n-self-clause-kept c = λ live waiting h.
    kept-large c.args.self.now c.args.space.now c.take-else-n-self.new.space live waiting h
    (c.take-else-n-self.ensures.kept h.large h.waiting_blocks h.in_larges) c.take-else-n-self.ensures.outside

pub returns-else-n-self-clause-outside : goal.returns-else-n-self-clause-outside
returns-else-n-self-clause-outside c = outside-larges _ _ c.take-else-n-self.ensures.outside

pub returns-then-n-self-clause-elsewhere : goal.returns-then-n-self-clause-elsewhere
returns-then-n-self-clause-elsewhere c = λ live waiting h.
    let new : Old = record { pages = c.take.new.self; large = c.args.self.now.large; small = c.args.self.now.small } in
    small-elsewhere c.args.self.now new _ c.take.new.space _ c.take.result live waiting c.take.ensures.sizes.page c.take.ensures.taken c.take.ensures.elsewhere h

pub returns-else-n-self-clause-elsewhere : goal.returns-else-n-self-clause-elsewhere
returns-else-n-self-clause-elsewhere c = λ live waiting h.
    let new : Old = record { pages = c.args.self.now.pages; large = c.take-else-n-self.new.self; small = c.args.self.now.small } in
    large-elsewhere c.args.self.now new _ c.take-else-n-self.new.space _ c.take-else-n-self.result live waiting c.take-else-n-self.ensures.taken h

pub returns-else-n-self-clause-arena_words : goal.returns-else-n-self-clause-arena_words
returns-else-n-self-clause-arena_words c =
    large-arenas _ _ _ c.take-else-n-self.result c.take-else-n-self.ensures.place c.take-else-n-self.ensures.same
