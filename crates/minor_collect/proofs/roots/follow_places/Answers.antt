use Rattle.std.proofs.Common.{rules, ◌≡◌, take, sym, subst}
use Rattle.minor_collect.specs.Calls.{FollowedPlaces}
use Rattle.minor_collect.proofs.PlacesSteps.{PlacesTo, places_begin, place_can, places_next, get_in, take_more, take_all}
use Rattle.std.proofs.Common.{inr}
use Rattle.minor_collect.proofs.roots.follow_places.Goals as goal

pub loop-p-init : goal.loop-p-init
loop-p-init c = places_begin c.args.parts.now c.args.moving.now c.args.places.now

pub follow-requires : goal.follow-requires
follow-requires c = place_can c.requires c.loop-p.invariant (get_in c.args.places.now c.loop-p.p-index c.loop-p-test.true)

pub loop-p-preserved : goal.loop-p-preserved
loop-p-preserved c = subst (PlacesTo c.args.parts.now c.follow.new.parts c.args.moving.now c.follow.new.moving c.args.places.now) (sym (take_more c.args.places.now c.loop-p.p-index c.loop-p-test.true))
    (places_next c.loop-p.invariant (get_in c.args.places.now c.loop-p.p-index c.loop-p-test.true) (λ stage spot standing there may. c.in_ok-follow.ensures stage spot standing (inr there) (λ ne. may)))

pub returns : goal.returns
returns c = λ stage spot standing may.
    let whole : take c.loop-p.p-index c.args.places.now ≡ c.args.places.now = take_all c.args.places.now c.loop-p.p-index (search (rules, c.loop-p-test.false, c.loop-p.auto.p-index-end)) in
    subst (FollowedPlaces stage c.args.parts.now c.loop-p.parts c.args.moving.now c.loop-p.moving spot) whole (c.loop-p.invariant.each stage spot standing may)
