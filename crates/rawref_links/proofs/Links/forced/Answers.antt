use Rattle.std.proofs.Common.{◌++◌, ap, ◌∙◌, filter_map}
use Rattle.store_model.specs.Structs.{forced_objects}
use Rattle.rawref_links.specs.Structures.{forced_at}
use Rattle.rawref_links.proofs.LinkLaws.{forced_objects-told}
use Rattle.rawref_links.proofs.Links.forced.Goals as goal

pub returns-clause-ok : goal.returns-clause-ok
returns-clause-ok c =
    c.append_forced.ensures
    ∙ ap (λ xs. xs ++ filter_map (forced_at c.self.inside.structures) c.deref.result.now) c.reserve.ensures.items
    ∙ ap (λ ns. c.args.places.now.items ++ filter_map (forced_at c.self.inside.structures) ns) c.deref.ensures.value
    ∙ ap (λ xs. c.args.places.now.items ++ xs) (forced_objects-told c.self.inside.structures c.put_in_order.new.numbers.items c.self.invariant.queued.rises
    c.put_in_order.ensures.rising (λ n. c.put_in_order.ensures.same n ∙ c.in_ok-numbers.ensures n))
    ∙ ap (λ s. c.args.places.now.items ++ forced_objects s.structs) c.self.view_is
