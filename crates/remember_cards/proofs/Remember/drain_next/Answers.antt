use Rattle.std.proofs.Common.{List, IfSome, sym, subst}
use Rattle.remember_cards.specs.Remembered.{Held}
use Rattle.remember_cards.specs.Remembering.{Remembering}
use Rattle.remember_cards.specs.Drained.{HandsOut}
use Rattle.remember_cards.proofs.HandLaws.{hands_out}
use Rattle.remember_cards.proofs.Remember.drain_next.Goals as goal

pub returns-else-is_none-clause-handed : goal.returns-else-is_none-clause-handed
returns-else-is_none-clause-handed c =
    let old : Remembering = record { card = c.self.inside.card; entries = c.self.inside.entries; kept = c.self.inside.kept } in
    let with_entries : List Held → Remembering = λ hs. record { card = c.self.inside.card; entries = hs; kept = c.self.inside.kept } in
    subst (λ (m : Remembering). IfSome c.take_span-span.result (λ span. HandsOut m (with_entries c.take_span-span.new.self) span)) c.self.view_is
    (subst (λ (hs : List Held). IfSome c.take_span-span.result (λ span. HandsOut old (with_entries hs) span)) (sym c.take_span-span.ensures.left)
    (hands_out old c.take_span-span.result c.self.invariant c.take_span-span.ensures.orderly c.take_span-span.ensures.next))
