use Rattle.std.proofs.Common.{sym, ap, ◌∙◌}
use Rattle.session_core.specs.Seen.{SessionSeen}
use Rattle.session_core.proofs.Items.{nothing_found}
use Rattle.session_core.proofs.session.Session.found_in.Goals as goal

pub returns-in-Some-clause-value : goal.returns-in-Some-clause-value
returns-in-Some-clause-value c =
    sym (nothing_found c.args.self.now c.args.heap.now _ c.args.root (sym (ap (λ (s : SessionSeen). s.types) c.self.view_is) ∙ c.in-Some.is) c.requires)
