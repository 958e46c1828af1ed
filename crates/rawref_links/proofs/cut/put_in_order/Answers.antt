use Rattle.std.proofs.Common.{◌≡◌, nat_eq, sym, ap, ◌∙◌, subst}
use Rattle.std.specs.List.{dedup}
use Rattle.std.specs.List.Sorted.{IsStrictlyIncreasing}
use Rattle.std.proofs.lemmas.List.Filters.{dedup_is}
use Rattle.std.proofs.lemmas.Map.Keys.{IsStrictlyIncreasing-dedup}
use Rattle.object_model.specs.Sets.{is_in}
use Rattle.rawref_links.proofs.Numbers.{is_in-dedup, is_in-permutation}
use Rattle.rawref_links.proofs.cut.put_in_order.Goals as goal

deduped : (c : goal.After-dedup) → c.dedup.new.self.items ≡ dedup nat_eq c.sort_unstable.new.self.items
deduped c = dedup_is nat_eq c.sort_unstable.new.self.items c.dedup.new.self.items c.dedup.ensures.filtered

pub returns-clause-rising : goal.returns-clause-rising
returns-clause-rising c = subst IsStrictlyIncreasing (sym (deduped c)) (IsStrictlyIncreasing-dedup c.sort_unstable.new.self.items c.sort_unstable.ensures.sorted)

pub returns-clause-same : goal.returns-clause-same
returns-clause-same c = λ number.
    ap (is_in number) (deduped c) ∙ is_in-dedup number c.sort_unstable.new.self.items
    ∙ sym (is_in-permutation number c.args.numbers.now.items c.sort_unstable.new.self.items c.sort_unstable.ensures.permutation)
