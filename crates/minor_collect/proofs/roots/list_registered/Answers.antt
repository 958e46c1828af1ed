use Rattle.std.proofs.Common.{ℕ, List, ◌++◌, sym, ap, ◌∙◌}
use Rattle.minor_collect.specs.Registered.{registered_places}
use Rattle.minor_collect.proofs.EntrySteps.{places-beside}
use Rattle.minor_collect.proofs.OnOkLaws.{on_ok}
use Rattle.minor_collect.proofs.roots.list_registered.Goals as goal

pub returns : goal.returns
returns c =
    on_ok c.registered_places.result
    (λ e. e ∙ ap (λ (xs : List ℕ). c.args.places.now.items ++ xs) (sym (places-beside c.parts.inside.finals.registered) ∙ ap registered_places c.parts.view_is))
    c.registered_places.ensures.ok
