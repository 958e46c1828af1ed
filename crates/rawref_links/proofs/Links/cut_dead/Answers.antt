use Rattle.std.proofs.Common.{◌++◌, ap, sym, subst, ◌∙◌}
use Rattle.std.specs.List.Sorted.{IsStrictlyIncreasing}
use Rattle.object_model.specs.Sets.{is_in}
use Rattle.store_model.specs.Links.{newly_dead, link_ends}
use Rattle.rawref_links.specs.Cuts.{ends_of}
use Rattle.rawref_links.proofs.CutTies.{all_listed, ends-told, structs-cut, tied-cut}
use Rattle.rawref_links.proofs.Links.cut_dead.Goals as goal

pub cut_all-requires-clause-listed : goal.cut_all-requires-clause-listed
cut_all-requires-clause-listed c =
    all_listed c.self.inside.structures c.args.self.now.structs c.self.inside.objects c.self.inside.dead.items c.deref.result.now c.args.dead.now
    c.self.invariant (ap (λ s. s.structs) c.self.view_is) (subst IsStrictlyIncreasing (sym c.deref.ensures.value) c.put_in_order.ensures.rising)
    (λ n. ap (is_in n) c.deref.ensures.value ∙ c.put_in_order.ensures.same n ∙ c.in_ok-numbers.ensures n)

pub invariant_of-self-2 : goal.invariant_of-self-2
invariant_of-self-2 c =
    tied-cut c.self.inside.structures c.args.self.now.structs c.self.inside.objects c.self.inside.dead.items c.deref.result.now c.args.dead.now
    c.self.invariant (ap (λ s. s.structs) c.self.view_is) (subst IsStrictlyIncreasing (sym c.deref.ensures.value) c.put_in_order.ensures.rising)
    (λ n. ap (is_in n) c.deref.ensures.value ∙ c.put_in_order.ensures.same n ∙ c.in_ok-numbers.ensures n)
    c.cut_all.new.structures c.cut_all.ensures.structures c.forget.new.self c.forget.ensures c.cut_all.new.dead.items
    (c.cut_all.ensures.dead ∙ ap (λ xs. xs ++ newly_dead (ends_of c.self.inside.structures c.deref.result.now)) c.reserve-2.ensures.items)

pub returns-clause-cut : goal.returns-clause-cut
returns-clause-cut c =
    let structs = structs-cut c.self.inside.structures c.args.self.now.structs c.self.inside.objects c.self.inside.dead.items c.deref.result.now c.args.dead.now
    c.self.invariant (ap (λ s. s.structs) c.self.view_is) (subst IsStrictlyIncreasing (sym c.deref.ensures.value) c.put_in_order.ensures.rising)
    (λ n. ap (is_in n) c.deref.ensures.value ∙ c.put_in_order.ensures.same n ∙ c.in_ok-numbers.ensures n)
    c.cut_all.new.structures c.cut_all.ensures.structures
    in
    let ends = ends-told c.self.inside.structures c.args.self.now.structs c.self.inside.objects c.self.inside.dead.items c.deref.result.now c.args.dead.now
    c.self.invariant (ap (λ s. s.structs) c.self.view_is) (subst IsStrictlyIncreasing (sym c.deref.ensures.value) c.put_in_order.ensures.rising)
    (λ n. ap (is_in n) c.deref.ensures.value ∙ c.put_in_order.ensures.same n ∙ c.in_ok-numbers.ensures n)
    in
    let queued = c.cut_all.ensures.dead ∙ ap (λ xs. xs ++ newly_dead (ends_of c.self.inside.structures c.deref.result.now)) c.reserve-2.ensures.items
    ∙ ap (λ es. c.self.inside.dead.items ++ newly_dead es) ends ∙ ap (λ s. s.dead ++ newly_dead (link_ends (λ object. is_in object c.args.dead.now) c.args.self.now.structs)) c.self.view_is
    in
    λ i. record { structs = structs i; dead = queued i }

pub returns-clause-ends : goal.returns-clause-ends
returns-clause-ends c =
    c.cut_all.ensures.ends ∙ ap (λ xs. xs ++ ends_of c.self.inside.structures c.deref.result.now) c.reserve.ensures.items
    ∙ ap (λ es. c.args.ends.now.items ++ es) (ends-told c.self.inside.structures c.args.self.now.structs c.self.inside.objects c.self.inside.dead.items c.deref.result.now c.args.dead.now
    c.self.invariant (ap (λ s. s.structs) c.self.view_is) (subst IsStrictlyIncreasing (sym c.deref.ensures.value) c.put_in_order.ensures.rising)
    (λ n. ap (is_in n) c.deref.ensures.value ∙ c.put_in_order.ensures.same n ∙ c.in_ok-numbers.ensures n))
