use Rattle.std.proofs.Common.{ℕ, ◌≢◌, sym, subst}
use Rattle.object_model.specs.Holds.{IsPointer}
use Rattle.heap_parts.specs.Parts.{HeapParts, word_in}
use Rattle.minor_collect.specs.Calls.{MayBeFound, FollowedItem}
use Rattle.minor_collect.proofs.ItemSteps.{item_inside, item_pointer, item_may, pointer_of, may_of, can_follow_item, can_hold_after, old_stays, view_after, item_followed}
use Rattle.minor_collect.proofs.items.follow_item.Goals as goal

pub item-x-requires-clause-item : goal.item-x-requires-clause-item
item-x-requires-clause-item c = item_inside c.args.parts.now.setup.types (word_in c.args.parts.now) c.args.v c.args.p c.args.i c.requires.follow.view c.requires.follow.item

pub follow-requires : goal.follow-requires
follow-requires c = can_follow_item c.requires.follow c.item-x.ensures

pub hold_for-requires : goal.hold_for-requires
hold_for-requires c =
    let r = c.requires.follow in
    can_hold_after c.args.p r.there (c.in_ok-y.ensures r.stage r.spot r.standing (pointer_of r c.item-x.ensures) (may_of r c.item-x.ensures))

pub put_item-requires-clause-whole : goal.put_item-requires-clause-whole
put_item-requires-clause-whole c =
    let r = c.requires.follow in
    let done = c.in_ok-y.ensures r.stage r.spot r.standing (pointer_of r c.item-x.ensures) (may_of r c.item-x.ensures) in
    view_after r c.item-x.ensures done (c.in_ok-hold_for.ensures r.stage done.after done.standing.middle (old_stays c.args.p done.grows r.there)) c.requires.view

pub put_item-requires-clause-item : goal.put_item-requires-clause-item
put_item-requires-clause-item c = item_inside c.args.parts.now.setup.types (word_in c.args.parts.now) c.args.v c.args.p c.args.i c.requires.follow.view c.requires.follow.item

pub returns : goal.returns
returns c = λ stage spot standing there view item may.
    let pointer = subst (IsPointer spot.placing.met) (sym c.item-x.ensures) (item_pointer standing c.args.v c.args.p c.args.i there view item may) in
    let found = subst (λ (x : ℕ). x ≢ 0 → MayBeFound stage (spot.placing.name x)) (sym c.item-x.ensures) (item_may standing c.args.v c.args.p c.args.i there view item may) in
    let done = c.in_ok-y.ensures stage spot standing pointer found in
    subst (λ (h : HeapParts). FollowedItem stage c.args.parts.now h c.args.moving.now c.follow.new.moving spot c.args.p c.args.i) (sym c.put_item.ensures)
    (item_followed standing c.args.v c.args.p c.args.i there view item may c.item-x.ensures done
    (c.in_ok-hold_for.ensures stage done.after done.standing.middle (old_stays c.args.p done.grows there)))
