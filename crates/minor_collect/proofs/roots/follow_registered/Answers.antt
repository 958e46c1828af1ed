use Rattle.std.proofs.Common.{ℕ, List, ◌++◌, ap, ◌∙◌}
use Rattle.minor_collect.specs.Registered.{registered_places}
use Rattle.minor_collect.proofs.roots.follow_registered.Goals as goal

pub follow_entries-requires-clause-places : goal.follow_entries-requires-clause-places
follow_entries-requires-clause-places c = c.deref.ensures.value ∙ (c.in_ok-list_registered.ensures ∙ ap (λ (xs : List ℕ). xs ++ registered_places c.args.parts.now) c.requires.empty)
