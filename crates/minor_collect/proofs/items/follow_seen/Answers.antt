use Rattle.std.proofs.Common.{rules}
use Rattle.minor_collect.proofs.ItemsLaws.{items_begin, item_can, items_next, items_end}
use Rattle.minor_collect.proofs.items.follow_seen.Goals as goal

pub loop-i-init : goal.loop-i-init
loop-i-init c = items_begin c.args.parts.now c.args.moving.now c.args.v c.args.p c.args.from c.args.to c.requires.whole

pub follow_item-requires-clause-follow : goal.follow_item-requires-clause-follow
follow_item-requires-clause-follow c = item_can c.requires.follow c.requires.value c.loop-i.invariant
    (search (rules, c.loop-i.auto.i)) (search (rules, c.loop-i-test.true, c.min-i-end.ensures)) (search (rules, c.loop-i-test.true, c.min-i-end.ensures))

pub loop-i-preserved : goal.loop-i-preserved
loop-i-preserved c = items_next c.requires.follow c.requires.value c.loop-i.invariant
    (search (rules, c.loop-i.auto.i)) (search (rules, c.loop-i-test.true, c.min-i-end.ensures)) (search (rules, c.loop-i-test.true, c.min-i-end.ensures)) c.in_ok-follow_item.ensures

pub returns : goal.returns
returns c = λ stage spot standing there may.
    items_end c.requires.value c.loop-i.invariant (λ i high less. search (rules, c.loop-i-test.false, c.min-i-end.ensures, high, less)) stage spot (record { standing = standing; there = there; may = may })
