use Rattle.std.proofs.Common.{rules, of_calls, ◌≡◌, sym, ap, ◌∙◌, subst}
use Rattle.std.specs.Prelude.{not, filter}
use Rattle.std.proofs.lemmas.Fn.{filter_same}
use Rattle.object_model.specs.Sets.{is_in}
use Rattle.remember_cards.specs.Entries.{marks_in, entries_of, AreListed}
use Rattle.remember_cards.proofs.DropLaws.{dropped, listed_dropped}
use Rattle.remember_cards.proofs.entries.Entries.drop_dead.Goals as goal

left : (c : goal.After-forget) → c.retain.new.self.items ≡ filter (λ place. not (is_in place c.args.dead.now)) c.self.inside.order.items
left c = filter_same _ (λ place. not (is_in place c.args.dead.now)) _ (λ x b f k. search (rules, of_calls)) _ _ c.retain.ensures.filtered

pub invariant_of-self : goal.invariant_of-self
invariant_of-self c =
    subst (AreListed (marks_in c.forget.new.self)) (sym (left c))
    (listed_dropped (marks_in c.self.inside.arrays) (marks_in c.forget.new.self) c.args.dead.now c.forget.ensures c.self.inside.order.items c.self.invariant)

pub returns : goal.returns
returns c =
    ap (entries_of (marks_in c.forget.new.self)) (left c)
    ∙ (dropped (marks_in c.self.inside.arrays) (marks_in c.forget.new.self) c.args.dead.now c.forget.ensures c.self.inside.order.items
    ∙ ap (filter (λ held. not (is_in held.place c.args.dead.now))) c.self.view_is)
