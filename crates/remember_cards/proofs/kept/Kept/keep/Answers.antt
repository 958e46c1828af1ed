use Rattle.std.proofs.Common.{ℕ, List, ◌∷◌, [], ◌++◌, ap, ◌∙◌}
use Rattle.remember_cards.proofs.SearchLaws.{kept_more, was-absent}
use Rattle.remember_cards.proofs.kept.Kept.keep.Goals as goal

pub invariant_of-self-then-branch : goal.invariant_of-self-then-branch
invariant_of-self-then-branch c =
    kept_more c.self.inside.places.keys c.self.inside.order.items c.insert.new.self.keys c.push_back_reserved.new.self.items c.args.place c.self.invariant
    (was-absent c.in_ok-insert.ensures.added c.if-branch.true) c.in_ok-insert.ensures.keys
    (c.push_back_reserved.ensures.items ∙ ap (λ (xs : List ℕ). xs ++ c.args.place ∷ []) c.reserve.ensures.items)
