use Rattle.std.proofs.Common.{ap, ◌∙◌}
use Rattle.remember_cards.specs.Remembered.{has_held_cards}
use Rattle.remember_cards.specs.Remembering.{Remembering, remembered_by}
use Rattle.remember_cards.proofs.KeptLaws.{cards_kept}
use Rattle.remember_cards.proofs.Remember.has_cards.Goals as goal

pub returns : goal.returns
returns c =
    let old : Remembering = record { card = c.self.inside.card; entries = c.self.inside.entries; kept = c.self.inside.kept } in
    c.has_cards.ensures ∙ (cards_kept old c.args.a ∙ ap (λ (m : Remembering). has_held_cards (remembered_by m) c.args.a) c.self.view_is)
