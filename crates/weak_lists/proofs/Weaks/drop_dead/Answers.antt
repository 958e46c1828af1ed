use Rattle.std.proofs.Common.{rules, of_calls, ◌∙◌, ap, filter}
use Rattle.std.specs.Prelude.{not}
use Rattle.std.proofs.lemmas.Fn.{filter_same}
use Rattle.object_model.specs.Sets.{is_in}
use Rattle.weak_lists.proofs.Weaks.drop_dead.Goals as goal

pub returns : goal.returns
returns c =
    let kept = filter_same _ (λ a. not (is_in a c.args.dead.now)) _ (λ x b f k. search (rules, of_calls)) _ _ c.retain.ensures.filtered in
    kept ∙ ap (filter (λ a. not (is_in a c.args.dead.now))) c.self.view_is
