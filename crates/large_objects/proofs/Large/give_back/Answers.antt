use Rattle.std.proofs.Common.{refl}
use Rattle.large_objects.specs.Blocks.{without_place}
use Rattle.large_objects.proofs.CallLaws.{given, held-counted}
use Rattle.large_objects.proofs.NextLaws.{live-block, block-within, block-base}
use Rattle.large_objects.proofs.KeptLaws.{outside-dropped, kept-dropped}
use Rattle.large_objects.proofs.Large.give_back.Goals as goal

pub overflow_sub-self : goal.overflow_sub-self
overflow_sub-self c = held-counted _ _ _ _ _ _ _ c.is_waiting.ensures c.requires.blocks

pub drop_large-requires : goal.drop_large-requires
drop_large-requires c =
    let b = live-block _ _ _ _ _ _ c.requires.blocks in ((block-within _ _ b).0, block-base _ _ b)

pub returns-clause-given : goal.returns-clause-given
returns-clause-given c = λ live waiting h. given _ _ _ _ _ _ _ live waiting c.remove.ensures.entries refl refl c.is_waiting.ensures refl c.drop_large.ensures h

pub returns-clause-outside : goal.returns-clause-outside
returns-clause-outside c =
    outside-dropped _ _ _ c.arena_words-in_order.ensures.ordered (live-block _ _ _ _ _ _ c.requires.blocks) c.drop_large.ensures

pub returns-clause-kept : goal.returns-clause-kept
returns-clause-kept c = λ live waiting h. kept-dropped _ _ _ _ _ _ _ c.arena_words-in_order.ensures.ordered h c.drop_large.ensures

pub returns-clause-stands : goal.returns-clause-stands
returns-clause-stands c =
    let s = c.requires in record {
      live = s.others;
      waiting = without_place c.args.a s.waiting;
      blocks = given _ _ _ _ _ _ _ s.others s.waiting c.remove.ensures.entries refl refl c.is_waiting.ensures refl c.drop_large.ensures s.blocks;
    }
