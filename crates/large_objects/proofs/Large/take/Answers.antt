use Rattle.std.proofs.Common.{refl, ◌∷◌}
use Rattle.large_objects.proofs.CallLaws.{unchanged}
use Rattle.large_objects.proofs.KeptLaws.{outside-grown, kept-grown, kept-same}
use Rattle.large_objects.proofs.NewLaws.{new-place, new-cleared, grown, regrown, regrown-blocks}
use Rattle.large_objects.proofs.PlaceLaws.{outside-same}
use Rattle.large_objects.proofs.Large.take.Goals as goal

pub drop_large-requires : goal.drop_large-requires
drop_large-requires c = new-place _ _ _ _ c.arena_words-in_order.ensures.ordered c.requires.n.0 c.in_ok-a.ensures.ok

pub returns-in-Ok-clause-taken : goal.returns-in-Ok-clause-taken
returns-in-Ok-clause-taken c = λ live waiting h.
    grown _ _ _ _ _ _ live waiting c.arena_words-in_order.ensures.ordered c.requires.n.0 c.in_ok-a.ensures.ok c.in-Ok.ensures.entries refl
    c.min-self.ensures refl h

pub returns-in-Ok-clause-cleared : goal.returns-in-Ok-clause-cleared
returns-in-Ok-clause-cleared c = new-cleared _ _ _ _ c.arena_words-in_order.ensures.ordered c.in_ok-a.ensures.ok

pub returns-in-Ok-clause-outside : goal.returns-in-Ok-clause-outside
returns-in-Ok-clause-outside c = outside-grown _ _ _ c.arena_words-in_order.ensures.ordered c.in_ok-a.ensures.ok.1

pub returns-in-Ok-clause-kept : goal.returns-in-Ok-clause-kept
returns-in-Ok-clause-kept c = λ live waiting h. kept-grown _ _ _ live c.arena_words-in_order.ensures.ordered c.in_ok-a.ensures.ok.1

pub returns-in-Err-clause-err : goal.returns-in-Err-clause-err
returns-in-Err-clause-err c = λ live waiting h.
    unchanged _ _ _ _ live waiting c.in-Err.ensures.err refl refl refl
    (regrown-blocks _ _ _ _ _ c.arena_words-in_order.ensures.ordered c.requires.n.0 c.in_ok-a.ensures.ok c.drop_large.ensures) h

pub returns-in-Err-clause-same : goal.returns-in-Err-clause-same
returns-in-Err-clause-same c =
    regrown _ _ _ _ _ c.arena_words-in_order.ensures.ordered c.requires.n.0 c.in_ok-a.ensures.ok c.drop_large.ensures

pub returns-in-Err-clause-outside : goal.returns-in-Err-clause-outside
returns-in-Err-clause-outside c =
    outside-same _ _
    (regrown-blocks _ _ _ _ _ c.arena_words-in_order.ensures.ordered c.requires.n.0 c.in_ok-a.ensures.ok c.drop_large.ensures)

pub returns-in-Err-clause-kept : goal.returns-in-Err-clause-kept
returns-in-Err-clause-kept c = λ live waiting h.
    kept-same c.args.space.now c.drop_large.new.self live
    (regrown-blocks _ _ _ _ _ c.arena_words-in_order.ensures.ordered c.requires.n.0 c.in_ok-a.ensures.ok c.drop_large.ensures)

pub returns-in-Ok-clause-stands : goal.returns-in-Ok-clause-stands
returns-in-Ok-clause-stands c =
    let s = c.requires.stands in record {
      live = (c.in_ok-a.a, c.args.n) ∷ s.live;
      waiting = s.waiting;
      blocks = grown _ _ _ _ _ _ s.live s.waiting c.arena_words-in_order.ensures.ordered c.requires.n.0 c.in_ok-a.ensures.ok c.in-Ok.ensures.entries refl
          c.min-self.ensures refl s.blocks;
    }

pub returns-in-Err-clause-stands : goal.returns-in-Err-clause-stands
returns-in-Err-clause-stands c =
    let s = c.requires.stands in record {
      live = s.live;
      waiting = s.waiting;
      blocks = unchanged _ _ _ _ s.live s.waiting c.in-Err.ensures.err refl refl refl
          (regrown-blocks _ _ _ _ _ c.arena_words-in_order.ensures.ordered c.requires.n.0 c.in_ok-a.ensures.ok c.drop_large.ensures) s.blocks;
    }
