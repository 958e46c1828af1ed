use Rattle.std.proofs.Common.{List, sym, ap, ◌∙◌}
use Rattle.remember_cards.specs.Remembered.{Held, has_cards_among}
use Rattle.remember_cards.specs.Entries.{marks_in}
use Rattle.remember_cards.proofs.EntrySteps.{cards_among}
use Rattle.remember_cards.proofs.entries.Entries.has_cards.Goals as goal

pub returns : goal.returns
returns c =
    c.has_cards.ensures ∙ (sym (cards_among (marks_in c.self.inside.arrays) c.args.place c.self.inside.order.items c.self.invariant)
    ∙ ap (λ (hs : List Held). has_cards_among hs c.args.place) c.self.view_is)
