use Rattle.std.proofs.Common.{◌-◌, ◌≡◌, ◌+◌, ◌≤◌}
use Rattle.std.specs.Prelude.{reverse}
use Rattle.indexmap.specs.IndexSet.{spare}
use Rattle.remember_cards.specs.Remembered.{with_cards}
use Rattle.remember_cards.specs.Remembering.{cards_from}
use Rattle.remember_cards.proofs.marks.ArrayMarks.mark.Given as goal

abbrev pub invariant-loop-card : goal.invariant-loop-card
invariant-loop-card l =
    (l.first ≤ l.card) × (l.card ≤ l.last + 1) × (l.card - l.first ≤ spare l.self-inside.cards) × (l.self-inside.is_whole ≡ l.fn.self.is_whole)
    × (reverse l.self-inside.cards.keys ≡ with_cards l.fn.self.cards (cards_from l.card (l.last + 1 - l.card)))

abbrev pub decreases-loop-card : goal.decreases-loop-card
decreases-loop-card l = l.card - l.first
