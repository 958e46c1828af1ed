use Rattle.std.proofs.Common.{rules, of_calls, ap, ◌∙◌}
use Rattle.std.specs.Prelude.{not, filter}
use Rattle.std.proofs.lemmas.Fn.{filter_same}
use Rattle.object_model.specs.Sets.{is_in}
use Rattle.remember_cards.proofs.DropLaws.{kept_dropped}
use Rattle.remember_cards.proofs.kept.Kept.drop_dead.Goals as goal

pub invariant_of-self : goal.invariant_of-self
invariant_of-self c =
    kept_dropped (λ place. not (is_in place c.args.dead.now)) c.self.inside.places.keys c.self.inside.order.items c.retain-2.new.self.keys c.retain.new.self.items c.self.invariant
    (filter_same _ (λ place. not (is_in place c.args.dead.now)) _ (λ x b f k. search (rules, of_calls)) _ _ c.retain-2.ensures.filtered)
    (filter_same _ (λ place. not (is_in place c.args.dead.now)) _ (λ x b f k. search (rules, of_calls)) _ _ c.retain.ensures.filtered)

pub returns : goal.returns
returns c =
    filter_same _ (λ place. not (is_in place c.args.dead.now)) _ (λ x b f k. search (rules, of_calls)) _ _ c.retain.ensures.filtered
    ∙ ap (filter (λ place. not (is_in place c.args.dead.now))) c.self.view_is
