use Rattle.std.proofs.Common.{rules, of_calls, ◌∙◌, ap}
use Rattle.std.proofs.lemmas.Fn.{filter_same}
use Rattle.heap_space.specs.Seats.{has_words, seen}
use Rattle.heap_space.proofs.Fields.{keep-full}
use Rattle.heap_space.proofs.areas.Areas.compact.Goals as goal

pub invariant_of-self : goal.invariant_of-self
invariant_of-self c =
    let kept = filter_same _ has_words _ (λ x b f k. search (rules, of_calls)) _ _ c.retain.ensures.filtered in
    (keep-full c.self.inside c.self.invariant c.retain.new.self kept).0

pub returns : goal.returns
returns c =
    let kept = filter_same _ has_words _ (λ x b f k. search (rules, of_calls)) _ _ c.retain.ensures.filtered in
    (keep-full c.self.inside c.self.invariant c.retain.new.self kept).1 ∙ ap seen c.self.view_is
