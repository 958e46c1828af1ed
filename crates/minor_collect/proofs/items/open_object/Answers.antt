use Rattle.std.proofs.Common.{ℕ, subst}
use Rattle.minor_collect.specs.Calls.{FollowedItems}
use Rattle.minor_collect.proofs.OpenLaws.{open_object_whole, can_open_items, open_there, opened_may, open_count}
use Rattle.minor_collect.proofs.OnOkLaws.{on_ok}
use Rattle.minor_collect.proofs.items.open_object.Goals as goal

pub view_of-v-requires : goal.view_of-v-requires
view_of-v-requires c = open_object_whole c.args.parts.now c.args.moving.now c.args.p c.requires

pub follow_seen-requires-clause-follow : goal.follow_seen-requires-clause-follow
follow_seen-requires-clause-follow c = can_open_items c.args.parts.now c.args.moving.now c.args.p c.view_of-v.result.ref_count c.requires

pub returns : goal.returns
returns c = λ stage spot standing there.
    on_ok c.follow_seen.result (subst (λ (n : ℕ). FollowedItems stage c.args.parts.now c.follow_seen.new.parts c.args.moving.now c.follow_seen.new.moving spot c.args.p 0 n) (open_count c.view_of-v.result c.args.p standing c.view_of-v.ensures.value))
    (c.follow_seen.ensures stage spot standing (open_there c.args.p standing there) (λ i low high. opened_may c.args.p i standing there))
