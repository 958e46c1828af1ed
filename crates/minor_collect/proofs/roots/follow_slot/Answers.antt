use Rattle.std.proofs.Common.{ℕ, ◌≢◌, sym, subst}
use Rattle.object_model.specs.Holds.{IsPointer}
use Rattle.heap_parts.specs.Parts.{HeapParts}
use Rattle.minor_collect.specs.Calls.{Followed, FollowedSlot, MayBeFound}
use Rattle.minor_collect.proofs.SlotSteps.{slot_leads, slot_may, slot_followed_by, slot_kept, can_follow_slot}
use Rattle.minor_collect.proofs.roots.follow_slot.Goals as goal

pub follow-requires : goal.follow-requires
follow-requires c = can_follow_slot c.args.parts.now c.args.moving.now c.args.root c.place-x.result c.requires c.place-x.ensures

pub set_slot-requires : goal.set_slot-requires
set_slot-requires c =
    let f = can_follow_slot c.args.parts.now c.args.moving.now c.args.root c.place-x.result c.requires c.place-x.ensures in
    slot_kept (c.in_ok-y.ensures f.stage f.spot f.standing f.pointer f.may) c.requires.there

pub returns : goal.returns
returns c = λ stage spot standing there.
    let pointer = subst (IsPointer spot.placing.met) (sym c.place-x.ensures) (slot_leads standing c.args.root there) in
    let may = subst (λ (x : ℕ). x ≢ 0 → MayBeFound stage (spot.placing.name x)) (sym c.place-x.ensures) (slot_may standing c.args.root there) in
    let followed = subst (λ (x : ℕ). Followed stage c.args.parts.now c.follow.new.parts c.args.moving.now c.follow.new.moving spot x c.in_ok-y.y) c.place-x.ensures
    (c.in_ok-y.ensures stage spot standing pointer may) in
    subst (λ (h : HeapParts). FollowedSlot stage c.args.parts.now h c.args.moving.now c.follow.new.moving spot c.args.root) (sym c.set_slot.ensures)
    (slot_followed_by standing c.args.root there followed)
