use Rattle.std.proofs.Common.{rules, of_calls, ◌∙◌, ap, filter}
use Rattle.std.specs.Prelude.{not, ◌==◌}
use Rattle.std.proofs.lemmas.Fn.{filter_same}
use Rattle.heap_space.specs.Places.{word_at}
use Rattle.weak_lists.proofs.PlaceLaws.{has-above, left-filtered}
use Rattle.weak_lists.proofs.places.drop_vanished.Goals as goal

pub returns : goal.returns
returns c =
    let kept = filter_same _ (λ a. not (a == 0)) _ (λ x b f k. search (rules, of_calls)) _ _ c.retain.ensures.filtered in
    kept ∙ (ap (filter (λ a. not (a == 0))) c.follow_places.ensures
    ∙ left-filtered c.args.nursery.now.words (word_at c.args.space.now.blocks) c.args.places.now.items (λ p t. has-above c.args.space.now _ c.arena_words-ordered.ensures.ordered (c.requires p t).now))
