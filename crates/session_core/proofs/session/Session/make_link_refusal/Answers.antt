use Rattle.std.proofs.Common.{sym, ◌∙◌, ◌++◌, ◌∷◌, []}
use Rattle.store_model.specs.Checks.{slots_checks, found_checks}
use Rattle.store_model.specs.StructChecks.{link_checks}
use Rattle.session_core.specs.Standing.{seen_if}
use Rattle.session_core.proofs.Passing.{front_refuses}
use Rattle.session_core.proofs.session.Session.make_link_refusal.Goals as goal

pub returns-in-Some : goal.returns-in-Some
returns-in-Some c =
    let seen = seen_if c.args.self.now.types c.args.heap.now in
    sym (front_refuses (slots_checks c.args.self.now.settings.roots (c.args.root ∷ []) ++ found_checks (seen.kind c.args.root))
    (link_checks (seen.structure c.args.number) c.args.p (seen.has_p_link c.args.root)) c.in-Some.reason (sym c.object_refusal.ensures ∙ c.in-Some.is))
