use Rattle.std.proofs.Common.{ℕ, List, ◌++◌, filter, IsTrue, ap, ◌∙◌, subst}
use Rattle.std.specs.List.Sorted.{IsPermutation}
use Rattle.object_model.specs.Sets.{is_in}
use Rattle.heap_parts.specs.Nursery.{walked}
use Rattle.minor_collect.specs.Walks.{is_gone_at, births_destroyed}
use Rattle.minor_collect.proofs.WalkLaws.{can_walk_all}
use Rattle.minor_collect.proofs.VanishLaws.{dead_there, finds_vanished}
use Rattle.minor_collect.proofs.OnOkLaws.{on_ok, both_ok}
use Rattle.minor_collect.proofs.collection.find_vanished.Goals as goal

pub list_dead-requires : goal.list_dead-requires
list_dead-requires c = can_walk_all c.requires.midway.middle

pub list_destroyed-requires-clause-there : goal.list_destroyed-requires-clause-there
list_destroyed-requires-clause-there c = λ p t.
    dead_there c.requires.midway.middle (λ walks w. c.in_ok-list_dead.ensures walks w ∙ ap (λ (xs : List ℕ). xs ++ filter (is_gone_at c.args.parts.now) (walked walks)) c.requires.dead) p
    (subst (λ (xs : List ℕ). IsTrue (is_in p xs)) c.deref.ensures.value t)

pub returns : goal.returns
returns c = λ stage spot middle.
    on_ok c.list_destroyed.result
    (λ both. finds_vanished middle (λ walks w. c.in_ok-list_dead.ensures walks w ∙ ap (λ (xs : List ℕ). xs ++ filter (is_gone_at c.args.parts.now) (walked walks)) c.requires.dead)
    (subst (λ (xs : List ℕ). IsPermutation (births_destroyed c.args.parts.now xs) c.list_destroyed.new.destroyed.items) c.deref.ensures.value both.0) both.1)
    (both_ok _ _ c.list_destroyed.result c.list_destroyed.ensures.listed c.list_destroyed.ensures.rising)
