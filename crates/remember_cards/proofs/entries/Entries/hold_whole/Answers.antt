use Rattle.std.proofs.Common.{◌≡◌, ℕ, List, false, sym, ap, ap₂, ◌∙◌, subst}
use Rattle.remember_cards.specs.Remembered.{Held, is_whole_among, hold_whole}
use Rattle.remember_cards.specs.Entries.{MarksAt, marks_in, entries_of, AreListed}
use Rattle.remember_cards.proofs.EntryLaws.{on_err}
use Rattle.remember_cards.proofs.EntrySteps.{whole_marked, whole_listed, whole_unmarked, whole_added, whole_added_listed}
use Rattle.remember_cards.proofs.entries.Entries.hold_whole.Goals as goal

pub invariant_of-self : goal.invariant_of-self
invariant_of-self c =
    whole_listed (marks_in c.self.inside.arrays) (marks_in c.set_whole.new.self) c.self.inside.order.items c.args.place c.self.invariant c.set_whole.ensures.whole

pub returns-then-set_whole-clause-ok : goal.returns-then-set_whole-clause-ok
returns-then-set_whole-clause-ok c =
    whole_marked (marks_in c.self.inside.arrays) (marks_in c.set_whole.new.self) c.self.inside.order.items c.args.place c.self.invariant c.set_whole.ensures.whole (sym c.if-set_whole.ensures.found)
    ∙ ap (λ (hs : List Held). hold_whole hs c.args.place) c.self.view_is

pub invariant_of-self-in_err-push_back : goal.invariant_of-self-in_err-push_back
invariant_of-self-in_err-push_back c =
    subst (AreListed (marks_in c.set_whole.new.self)) (sym c.in_err-push_back.ensures.items)
    (whole_listed (marks_in c.self.inside.arrays) (marks_in c.set_whole.new.self) c.self.inside.order.items c.args.place c.self.invariant c.set_whole.ensures.whole)

pub returns-in_err-push_back-clause-err : goal.returns-in_err-push_back-clause-err
returns-in_err-push_back-clause-err c =
    on_err c.from_residual.result
    (ap₂ (λ (m : MarksAt) (order : List ℕ). entries_of m order)
    (whole_unmarked (marks_in c.self.inside.arrays) (marks_in c.set_whole.new.self) c.self.inside.order.items c.args.place c.self.invariant c.set_whole.ensures.whole (sym c.if-set_whole.ensures.found))
    c.in_err-push_back.ensures.items
    ∙ c.self.view_is)

pub invariant_of-self-2 : goal.invariant_of-self-2
invariant_of-self-2 c =
    let out : is_whole_among (entries_of (marks_in c.self.inside.arrays) c.self.inside.order.items) c.args.place ≡ false =
    ap (λ (hs : List Held). is_whole_among hs c.args.place) c.self.view_is ∙ c.requires in
    subst (AreListed (marks_in c.set_whole.new.self)) (sym c.in_ok-push_back.ensures.items)
    (whole_added_listed (marks_in c.self.inside.arrays) (marks_in c.set_whole.new.self) c.self.inside.order.items c.args.place c.self.invariant c.set_whole.ensures.whole
    (sym c.if-set_whole.ensures.found) out)

pub returns-clause-ok : goal.returns-clause-ok
returns-clause-ok c =
    let out : is_whole_among (entries_of (marks_in c.self.inside.arrays) c.self.inside.order.items) c.args.place ≡ false =
    ap (λ (hs : List Held). is_whole_among hs c.args.place) c.self.view_is ∙ c.requires in
    ap (entries_of (marks_in c.set_whole.new.self)) c.in_ok-push_back.ensures.items
    ∙ (whole_added (marks_in c.self.inside.arrays) (marks_in c.set_whole.new.self) c.self.inside.order.items c.args.place c.self.invariant c.set_whole.ensures.whole
    (sym c.if-set_whole.ensures.found) out
    ∙ ap (λ (hs : List Held). hold_whole hs c.args.place) c.self.view_is)
