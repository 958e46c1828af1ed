use Rattle.std.proofs.Common.{ℕ, List, ◌≡◌, ◌++◌, sym, ap, ◌∙◌, subst}
use Rattle.store_model.specs.Structs.{forced_objects}
use Rattle.minor_collect.specs.Calls.{MayFollow, FollowedPlaces}
use Rattle.minor_collect.proofs.OnOkLaws.{on_ok}
use Rattle.minor_collect.proofs.PlacesSteps.{forced_may, forced_followed, can_follow_forced}
use Rattle.minor_collect.proofs.roots.follow_forced.Goals as goal

pub follow_places-requires : goal.follow_places-requires
follow_places-requires c = can_follow_forced c.args.parts.now c.args.moving.now c.deref.result.now c.requires.follow
    (c.deref.ensures.value ∙ (c.in_ok-list_forced.ensures ∙ ap (λ (xs : List ℕ). xs ++ forced_objects c.args.parts.now.links.structs) c.requires.empty))

pub returns : goal.returns
returns c = λ stage spot standing.
    let are : c.deref.result.now ≡ forced_objects c.args.parts.now.links.structs =
    c.deref.ensures.value ∙ (c.in_ok-list_forced.ensures ∙ ap (λ (xs : List ℕ). xs ++ forced_objects c.args.parts.now.links.structs) c.requires.empty) in
    on_ok c.follow_places.result (λ f. forced_followed standing (subst (FollowedPlaces stage c.args.parts.now c.follow_places.new.parts c.args.moving.now c.follow_places.new.moving spot) are f))
    (c.follow_places.ensures stage spot standing (subst (MayFollow stage spot) (sym are) (forced_may standing)))
