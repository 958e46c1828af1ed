use Rattle.std.proofs.Common.{◌≡◌, ◌<◌, ◌∷◌, ◌++◌, [], List, length, false, nat_eq, sym, ap, ◌∙◌, subst}
use Rattle.indexmap.specs.IndexSet.{contains}
use Rattle.finalizer_order.specs.declared.entry.Entry.{Entry}
use Rattle.finalizer_order.specs.Finalizers.{Finalizers, is_listed}
use Rattle.finalizer_order.specs.Listed.{AreListed}
use Rattle.finalizer_order.proofs.Listing.{listed_is, listed_more}
use Rattle.finalizer_order.proofs.Finals.register.Goals as goal

pub invariant_of-self-2 : goal.invariant_of-self-2
invariant_of-self-2 c =
    let entry : Entry = record { place = c.args.a; birth = c.args.birth; queue = c.args.queue } in
    let none : contains nat_eq c.self.inside.births c.args.birth ≡ false =
    listed_is c.args.birth c.self.invariant ∙ ap (λ (f : Finalizers). is_listed f c.args.birth) c.self.view_is ∙ c.requires.unlisted in
    let fits : c.args.queue < length c.self.inside.queues.items = subst (λ (f : Finalizers). c.args.queue < f.queue_count) (sym c.self.view_is) c.requires.in_range in
    let is : c.push_reserved.new.self.items ≡ c.self.inside.registered.items ++ entry ∷ [] =
    c.push_reserved.ensures.items ∙ ap (λ (xs : List Entry). xs ++ entry ∷ []) c.in_ok-reserve.ensures.items in
    subst (λ (xs : List Entry). AreListed (contains nat_eq c.insert.new.self) xs c.self.inside.chosen.items c.self.inside.queues.items) (sym is)
    (listed_more entry c.self.invariant none c.in_ok-insert.ensures.updates.0 fits)
