use Rattle.std.proofs.Common.{◌≡◌, ℕ, ◌+◌, ◌-◌, true, false, List, ◌∷◌, [], ◌++◌, is_some, sym, ap, ◌∙◌, subst}
use Rattle.remember_cards.specs.Remembered.{Held, is_whole_among, hold_cards}
use Rattle.remember_cards.specs.Remembering.{cards_from}
use Rattle.remember_cards.specs.Entries.{marks_in, entries_of, AreListed}
use Rattle.remember_cards.proofs.EntrySteps.{cards_marked, cards_listed, cards_added, cards_added_listed, was-new, was-there}
use Rattle.remember_cards.proofs.entries.Entries.hold_cards.Goals as goal

pub invariant_of-self-then-branch : goal.invariant_of-self-then-branch
invariant_of-self-then-branch c =
    let f = marks_in c.self.inside.arrays in let order = c.self.inside.order.items in
    let out : is_whole_among (entries_of (marks_in c.self.inside.arrays) c.self.inside.order.items) c.args.place ≡ false =
    ap (λ (hs : List Held). is_whole_among hs c.args.place) c.self.view_is ∙ c.requires.not_whole in
    let none : is_some (f c.args.place) ≡ false = was-new (is_some (f c.args.place)) c.in_ok-mark.field-0 c.in_ok-mark.ensures.new c.if-branch.true in
    subst (AreListed (marks_in c.mark.new.self)) (sym (c.push_back_reserved.ensures.items ∙ ap (λ (xs : List ℕ). xs ++ c.args.place ∷ []) c.reserve.ensures.items))
    (cards_added_listed f (marks_in c.mark.new.self) order c.args.place c.args.first (cards_from (c.args.first + 1) (c.args.last - c.args.first)) c.self.invariant c.in_ok-mark.ensures.ok none out)

pub invariant_of-self-else-branch : goal.invariant_of-self-else-branch
invariant_of-self-else-branch c =
    let f = marks_in c.self.inside.arrays in let order = c.self.inside.order.items in
    let some : is_some (f c.args.place) ≡ true = was-there (is_some (f c.args.place)) c.in_ok-mark.field-0 c.in_ok-mark.ensures.new c.if-branch.false in
    subst (AreListed (marks_in c.mark.new.self)) (sym c.reserve.ensures.items)
    (cards_listed f (marks_in c.mark.new.self) order c.args.place c.args.first (cards_from (c.args.first + 1) (c.args.last - c.args.first)) c.self.invariant c.in_ok-mark.ensures.ok some)

pub returns-then-branch-clause-ok : goal.returns-then-branch-clause-ok
returns-then-branch-clause-ok c =
    let f = marks_in c.self.inside.arrays in let order = c.self.inside.order.items in
    let cards = cards_from (c.args.first + 1) (c.args.last - c.args.first) in
    let out : is_whole_among (entries_of (marks_in c.self.inside.arrays) c.self.inside.order.items) c.args.place ≡ false =
    ap (λ (hs : List Held). is_whole_among hs c.args.place) c.self.view_is ∙ c.requires.not_whole in
    let none : is_some (f c.args.place) ≡ false = was-new (is_some (f c.args.place)) c.in_ok-mark.field-0 c.in_ok-mark.ensures.new c.if-branch.true in
    ap (entries_of (marks_in c.mark.new.self)) (c.push_back_reserved.ensures.items ∙ ap (λ (xs : List ℕ). xs ++ c.args.place ∷ []) c.reserve.ensures.items)
    ∙ (cards_added f (marks_in c.mark.new.self) order c.args.place c.args.first cards c.self.invariant c.in_ok-mark.ensures.ok none out
    ∙ ap (λ (hs : List Held). hold_cards hs c.args.place (c.args.first ∷ cards)) c.self.view_is)

pub returns-else-branch-clause-ok : goal.returns-else-branch-clause-ok
returns-else-branch-clause-ok c =
    let f = marks_in c.self.inside.arrays in let order = c.self.inside.order.items in
    let cards = cards_from (c.args.first + 1) (c.args.last - c.args.first) in
    let some : is_some (f c.args.place) ≡ true = was-there (is_some (f c.args.place)) c.in_ok-mark.field-0 c.in_ok-mark.ensures.new c.if-branch.false in
    ap (entries_of (marks_in c.mark.new.self)) c.reserve.ensures.items
    ∙ (cards_marked f (marks_in c.mark.new.self) order c.args.place c.args.first cards c.self.invariant c.in_ok-mark.ensures.ok some
    ∙ ap (λ (hs : List Held). hold_cards hs c.args.place (c.args.first ∷ cards)) c.self.view_is)
