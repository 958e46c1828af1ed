use Rattle.minor_collect.proofs.RelocateLaws.{can_take, can_settle, waits_after, settled_both}
use Rattle.minor_collect.proofs.moves.relocate.Goals as goal

pub take_room-requires : goal.take_room-requires
take_room-requires c = can_take c.args.parts.now c.args.p c.args.n c.requires

pub settle-requires-clause-waits : goal.settle-requires-clause-waits
settle-requires-clause-waits c = can_settle (c.in_ok-a.ensures c.requires.stage c.requires.spot c.requires.middle) c.requires.waits

pub returns : goal.returns
returns c = λ stage spot middle waits.
    let took = c.in_ok-a.ensures stage spot middle in
    settled_both took (c.settle.ensures stage spot took.after (waits_after took waits))
