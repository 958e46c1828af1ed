use Rattle.minor_collect.proofs.FollowLaws.{followed_still, can_move_out, some_place}
use Rattle.minor_collect.proofs.moves.follow.Goals as goal

pub returns-in-Some : goal.returns-in-Some
returns-in-Some c = λ stage spot standing is may. followed_still standing (c.in-Some.ensures stage spot standing.middle is)

pub move_out-requires : goal.move_out-requires
move_out-requires c = can_move_out c.args.parts.now c.args.moving.now c.args.x c.requires
    (c.in_default.ensures c.requires.stage c.requires.spot c.requires.standing.middle c.requires.pointer)

pub returns : goal.returns
returns c = λ stage spot standing is may.
    let w = c.in_default.ensures stage spot standing.middle is in
    c.move_out.ensures stage spot standing w.0 w.1 (may (some_place c.args.x standing w.0))
