use Rattle.minor_collect.proofs.OnOkLaws.{on_ok}
use Rattle.minor_collect.proofs.RootSteps.{roots_followed, can_after_slots, can_after_entries}
use Rattle.minor_collect.proofs.roots.follow_roots.Goals as goal

pub follow_registered-requires-clause-follow : goal.follow_registered-requires-clause-follow
follow_registered-requires-clause-follow c = let l = c.requires.follow in can_after_slots (c.in_ok-follow_slots.ensures l.stage l.spot l.standing)

pub follow_forced-requires-clause-follow : goal.follow_forced-requires-clause-follow
follow_forced-requires-clause-follow c =
    let l = c.requires.follow in
    let a = c.in_ok-follow_slots.ensures l.stage l.spot l.standing in
    can_after_entries (c.in_ok-follow_registered.ensures l.stage a.after a.standing)

pub returns : goal.returns
returns c = λ stage spot standing.
    let a = c.in_ok-follow_slots.ensures stage spot standing in
    let r = c.in_ok-follow_registered.ensures stage a.after a.standing in
    on_ok c.follow_forced.result (λ b. roots_followed a r b) (c.follow_forced.ensures stage r.after r.standing)
