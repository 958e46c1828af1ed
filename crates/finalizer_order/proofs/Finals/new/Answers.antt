use Rattle.std.proofs.Common.{[], List, nat_eq, sym, ap, ap₂, ◌∙◌, subst}
use Rattle.std.specs.List.{list_any}
use Rattle.indexmap.specs.IndexSet.{contains}
use Rattle.finalizer_order.specs.declared.entry.Entry.{Entry}
use Rattle.finalizer_order.specs.Queues.{joined}
use Rattle.finalizer_order.specs.Listed.{AreListed}
use Rattle.finalizer_order.proofs.Listing.{listed_none}
use Rattle.finalizer_order.proofs.QueueLaws.{view_of, new_view, joined-empty}
use Rattle.finalizer_order.proofs.Finals.new.Goals as goal

pub invariant_of-result : goal.invariant_of-result
invariant_of-result c =
    let births = c.in_ok-with_capacity-2.field-0 in
    let qs : List (List Entry) = c.in_ok-empty_queues.field-0.items in
    subst (λ (xs : List Entry). AreListed (contains nat_eq births) xs c.new.result.items qs) (sym c.in_ok-with_capacity.ensures.items)
    (subst (λ (ys : List Entry). AreListed (contains nat_eq births) [] ys qs) (sym c.new.ensures.items)
    (listed_none (contains nat_eq births) qs (λ b. ap (list_any (nat_eq b)) c.in_ok-with_capacity-2.ensures.empty)
    (ap joined c.in_ok-empty_queues.ensures ∙ joined-empty c.args.queues)))

pub returns : goal.returns
returns c =
    ap₂ (λ (xs ys : List Entry). view_of xs ys c.in_ok-empty_queues.field-0.items) c.in_ok-with_capacity.ensures.items c.new.ensures.items
    ∙ new_view c.in_ok-empty_queues.field-0.items c.args.queues c.in_ok-empty_queues.ensures
