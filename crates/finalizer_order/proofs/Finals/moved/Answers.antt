use Rattle.std.proofs.Common.{List, set, nat_eq, refl, sym, ap, ◌∙◌, subst, inl}
use Rattle.std.specs.Prelude.{option_map, slice_get}
use Rattle.indexmap.specs.IndexSet.{contains}
use Rattle.finalizer_order.specs.declared.entry.Entry.{Entry}
use Rattle.finalizer_order.specs.Finalizers.{Finalizers}
use Rattle.finalizer_order.specs.Listed.{AreListed}
use Rattle.finalizer_order.specs.Moves.{Moves, MovesOne}
use Rattle.finalizer_order.proofs.Entries.{IsThere, is_there}
use Rattle.finalizer_order.proofs.Listing.{listed_moved}
use Rattle.finalizer_order.proofs.Finals.moved.Goals as goal

-- the entry that was found
found : (c : goal.After-self-in-Some-1) → IsThere c.self.inside.registered.items c.in-Some.index c.args.from c.index_mut.result.now
found c = is_there c.self.inside.registered.items c.in-Some.index c.args.from c.index_mut.result.now
    (ap (λ (ys : List Entry). option_map (λ (e : Entry). e.place) (slice_get ys c.in-Some.index)) (sym c.deref.ensures.value) ∙ c.in-Some.ensures.found) c.index_mut.ensures.value

pub invariant_of-self : goal.invariant_of-self
invariant_of-self c =
    subst (λ (e : Entry). AreListed (contains nat_eq c.self.inside.births) (set c.self.inside.registered.items c.in-Some.index (record e { place = c.args.to })) c.self.inside.chosen.items c.self.inside.queues.items)
    (sym c.index_mut.ensures.value) (listed_moved c.in-Some.index c.args.to c.index_mut.result.now (found c).inside c.self.invariant)

pub returns-in-Some-clause-registered : goal.returns-in-Some-clause-registered
returns-in-Some-clause-registered c =
    let xs : List Entry = c.self.inside.registered.items in
    let r : Entry = c.index_mut.result.now in
    let there = found c in
    let one : MovesOne c.args.from c.args.to xs (set xs c.in-Some.index (record r { place = c.args.to })) = record {
      which = c.in-Some.index;
      entry = r;
      was = there.is;
      from_there = there.lies;
      is = refl;
    } in
    subst (λ (f : Finalizers). Moves c.args.from c.args.to f.registered (set xs c.in-Some.index (record r { place = c.args.to }))) c.self.view_is (inl one)
