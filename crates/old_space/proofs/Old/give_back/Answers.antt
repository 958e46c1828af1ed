use Rattle.old_space.proofs.Narrow.{outside-pages, outside-larges}
use Rattle.old_space.proofs.GiveLaws.{outside-arenas, live-small, live-large, given-small, given-large, kept-given-small, kept-given-large}
use Rattle.old_space.proofs.JoinLaws.{HasBlocks-first}
use Rattle.old_space.specs.Calls.{still_waiting}
use Rattle.old_space.proofs.Old.give_back.Goals as goal

pub give_back-requires : goal.give_back-requires
give_back-requires c = live-small _ _ _ _ c.if-a-lt-FIRST_LARGE.true c.requires

pub give_back-requires-else-a-lt-FIRST_LARGE : goal.give_back-requires-else-a-lt-FIRST_LARGE
give_back-requires-else-a-lt-FIRST_LARGE c = live-large _ _ _ _ c.if-a-lt-FIRST_LARGE.false c.requires

pub returns-then-a-lt-FIRST_LARGE-clause-given : goal.returns-then-a-lt-FIRST_LARGE-clause-given
returns-then-a-lt-FIRST_LARGE-clause-given c = λ live waiting h.
    let to = c.give_back.ensures in given-small _ _ _ _ _ _ live waiting c.if-a-lt-FIRST_LARGE.true to.given to.arenas to.sizes.small h

pub returns-then-a-lt-FIRST_LARGE-clause-stands : goal.returns-then-a-lt-FIRST_LARGE-clause-stands
returns-then-a-lt-FIRST_LARGE-clause-stands c =
    let to = c.give_back.ensures in let s = c.requires in record {
      live = s.others;
      waiting = still_waiting c.args.a s.waiting;
      blocks = given-small _ _ _ _ _ c.args.n s.others s.waiting c.if-a-lt-FIRST_LARGE.true to.given to.arenas to.sizes.small s.blocks;
    }

pub returns-then-a-lt-FIRST_LARGE-clause-kept : goal.returns-then-a-lt-FIRST_LARGE-clause-kept
returns-then-a-lt-FIRST_LARGE-clause-kept c = λ live waiting h.
    let to = c.give_back.ensures in kept-given-small c.args.self.now _ _ c.args.a _ live waiting c.if-a-lt-FIRST_LARGE.true to.kept to.arenas h

pub returns-then-a-lt-FIRST_LARGE-clause-outside : goal.returns-then-a-lt-FIRST_LARGE-clause-outside
returns-then-a-lt-FIRST_LARGE-clause-outside c = outside-pages _ _ (outside-arenas _ _ c.give_back.ensures.arenas)

pub returns-else-a-lt-FIRST_LARGE-clause-given : goal.returns-else-a-lt-FIRST_LARGE-clause-given
returns-else-a-lt-FIRST_LARGE-clause-given c = λ live waiting h.
    let to = c.give_back-else-a-lt-FIRST_LARGE.ensures in let b = HasBlocks-first _ _ _ live waiting h in
    given-large _ _ _ _ _ _ live waiting c.if-a-lt-FIRST_LARGE.false b.wide to.given to.outside to.space h

pub returns-else-a-lt-FIRST_LARGE-clause-stands : goal.returns-else-a-lt-FIRST_LARGE-clause-stands
returns-else-a-lt-FIRST_LARGE-clause-stands c =
    let to = c.give_back-else-a-lt-FIRST_LARGE.ensures in let s = c.requires in let b = HasBlocks-first _ _ _ s.others s.waiting s.blocks in record {
      live = s.others;
      waiting = still_waiting c.args.a s.waiting;
      blocks = given-large _ _ _ _ _ c.args.n s.others s.waiting c.if-a-lt-FIRST_LARGE.false b.wide to.given to.outside to.space s.blocks;
    }

pub returns-else-a-lt-FIRST_LARGE-clause-kept : goal.returns-else-a-lt-FIRST_LARGE-clause-kept
returns-else-a-lt-FIRST_LARGE-clause-kept c = λ live waiting h.
    let to = c.give_back-else-a-lt-FIRST_LARGE.ensures in
    kept-given-large c.args.self.now _ _ c.args.a _ live waiting c.if-a-lt-FIRST_LARGE.false to.kept to.outside h

pub returns-else-a-lt-FIRST_LARGE-clause-outside : goal.returns-else-a-lt-FIRST_LARGE-clause-outside
returns-else-a-lt-FIRST_LARGE-clause-outside c = outside-larges _ _ c.give_back-else-a-lt-FIRST_LARGE.ensures.outside
