use Rattle.std.proofs.Common.{◌≡◌, true, false, ◌∷◌, drop, sym, ap, ◌∙◌, subst}
use Rattle.std.specs.Option.{option_and_then}
use Rattle.remember_cards.specs.Drained.{left_of}
use Rattle.remember_cards.specs.Entries.{marks_in, entries_of, AreListed, AreOrderly, taken_card, is_more_left}
use Rattle.remember_cards.proofs.OrderLaws.{orderly}
use Rattle.remember_cards.proofs.EntrySteps.{more_left, more_listed, rest_left, rest_listed}
use Rattle.remember_cards.proofs.FrontLaws.{front}
use Rattle.remember_cards.proofs.entries.Entries.take_span.Goals as goal

split-more : (c : goal.Then-is_more) → c.self.inside.order.items ≡ c.in_ok-place.field-0.now ∷ drop 1 c.self.inside.order.items
split-more c = front c.self.inside.order.items c.in_ok-place.field-0.now c.in_ok-place.ensures.item.3.0 c.in_ok-place.ensures.lookup

taken-more : (c : goal.Then-is_more) → is_more_left (option_and_then taken_card (marks_in c.self.inside.arrays c.in_ok-place.field-0.now)) ≡ true
taken-more c = ap is_more_left (sym c.take_card-taken.ensures.card) ∙ (sym c.is_more.ensures ∙ c.if-is_more.true)

pub invariant_of-self : goal.invariant_of-self
invariant_of-self c =
    let split = split-more c in
    subst (AreListed (marks_in c.take_card-taken.new.self)) (sym split)
    (more_listed (marks_in c.self.inside.arrays) (marks_in c.take_card-taken.new.self) (drop 1 c.self.inside.order.items) c.in_ok-place.field-0.now
    (subst (AreListed (marks_in c.self.inside.arrays)) split c.self.invariant) c.take_card-taken.ensures.left (taken-more c))

pub returns-then-is_more-clause-left : goal.returns-then-is_more-clause-left
returns-then-is_more-clause-left c =
    let split = split-more c in
    ap (entries_of (marks_in c.take_card-taken.new.self)) split
    ∙ (more_left (marks_in c.self.inside.arrays) (marks_in c.take_card-taken.new.self) (drop 1 c.self.inside.order.items) c.in_ok-place.field-0.now
    (subst (AreListed (marks_in c.self.inside.arrays)) split c.self.invariant) c.take_card-taken.ensures.left (taken-more c)
    ∙ ap left_of (ap (entries_of (marks_in c.self.inside.arrays)) (sym split) ∙ c.self.view_is))

pub returns-then-is_more-clause-orderly : goal.returns-then-is_more-clause-orderly
returns-then-is_more-clause-orderly c =
    subst AreOrderly c.self.view_is (orderly (marks_in c.self.inside.arrays) c.self.inside.order.items c.self.invariant.differ c.self.invariant.some_cards)

split-rest : (c : goal.After-remove) → c.self.inside.order.items ≡ c.in_ok-place.field-0.now ∷ drop 1 c.self.inside.order.items
split-rest c = front c.self.inside.order.items c.in_ok-place.field-0.now c.in_ok-place.ensures.item.3.0 c.in_ok-place.ensures.lookup

pub invariant_of-self-2 : goal.invariant_of-self-2
invariant_of-self-2 c =
    subst (AreListed (marks_in c.remove.new.self)) (sym c.pop_front.ensures.rest)
    (rest_listed (marks_in c.self.inside.arrays) (marks_in c.take_card-taken.new.self) (marks_in c.remove.new.self) (drop 1 c.self.inside.order.items) c.in_ok-place.field-0.now
    (subst (AreListed (marks_in c.self.inside.arrays)) (split-rest c) c.self.invariant) c.take_card-taken.ensures.left c.remove.ensures)

pub returns-clause-left : goal.returns-clause-left
returns-clause-left c =
    let other : is_more_left (option_and_then taken_card (marks_in c.self.inside.arrays c.in_ok-place.field-0.now)) ≡ false =
    ap is_more_left (sym c.take_card-taken.ensures.card) ∙ (sym c.is_more.ensures ∙ c.if-is_more.false) in
    ap (entries_of (marks_in c.remove.new.self)) c.pop_front.ensures.rest
    ∙ (rest_left (marks_in c.self.inside.arrays) (marks_in c.take_card-taken.new.self) (marks_in c.remove.new.self) (drop 1 c.self.inside.order.items) c.in_ok-place.field-0.now
    (subst (AreListed (marks_in c.self.inside.arrays)) (split-rest c) c.self.invariant) c.take_card-taken.ensures.left c.remove.ensures other
    ∙ ap left_of (ap (entries_of (marks_in c.self.inside.arrays)) (sym (split-rest c)) ∙ c.self.view_is))

pub returns-clause-orderly : goal.returns-clause-orderly
returns-clause-orderly c =
    subst AreOrderly c.self.view_is (orderly (marks_in c.self.inside.arrays) c.self.inside.order.items c.self.invariant.differ c.self.invariant.some_cards)
