use Rattle.std.proofs.Common.{ℕ, List, ap, ap₂, ◌∙◌}
use Rattle.object_model.specs.Sets.{is_in}
use Rattle.remember_cards.specs.Remembered.{Held, without_dead}
use Rattle.remember_cards.specs.Remembering.{Remembering, remembered_by}
use Rattle.remember_cards.proofs.KeptLaws.{remembered_dropped}
use Rattle.remember_cards.proofs.Remember.drop_dead.Goals as goal

pub returns-clause-remembered : goal.returns-clause-remembered
returns-clause-remembered c =
    let old : Remembering = record { card = c.self.inside.card; entries = c.self.inside.entries; kept = c.self.inside.kept } in
    let with_both : List Held → List ℕ → Remembering = λ hs ps. record { card = c.self.inside.card; entries = hs; kept = ps } in
    ap remembered_by (ap₂ with_both c.drop_dead.ensures c.drop_dead-2.ensures)
    ∙ (remembered_dropped old c.args.dead.now ∙ ap (λ (m : Remembering). without_dead (λ place. is_in place c.args.dead.now) (remembered_by m)) c.self.view_is)
