use Rattle.std.proofs.Common.{◌≡◌, ℕ, List, ◌++◌, Bool, not, nat_eq, sym, ap, ◌∙◌, subst}
use Rattle.std.specs.Prelude.{filter}
use Rattle.indexmap.specs.IndexSet.{contains}
use Rattle.heap_space.specs.Places.{word_at}
use Rattle.finalizer_order.specs.declared.entry.Entry.{Entry}
use Rattle.finalizer_order.specs.Finalizers.{places_of}
use Rattle.finalizer_order.specs.Listed.{AreListed}
use Rattle.finalizer_order.specs.Passes.{is_ordered, HasPassed, Settles}
use Rattle.finalizer_order.proofs.Listing.{listed_split}
use Rattle.finalizer_order.proofs.ChooseSteps.{on_ok, on_ok-map, chooses, keeps}
use Rattle.finalizer_order.proofs.Finals.choose.Goals as goal

-- the entries that stay and those that are picked
stays-are : (c : goal.After-settle) → c.swap.new.x.items ≡ filter (λ e. not (is_ordered c.args.nursery.now.words (word_at c.run.new.space.blocks) e.place)) c.self.inside.registered.items
stays-are c = ap (λ v. v.items) c.swap.ensures.x_after ∙ c.in_ok-split.ensures.stays
    ∙ ap (filter (λ (e : Entry). not (is_ordered c.args.nursery.now.words (word_at c.run.new.space.blocks) e.place))) c.deref-2.ensures.value

picked-are : (c : goal.After-settle) → c.extend_from_slice.new.self.items
    ≡ c.self.inside.chosen.items ++ filter (λ e. is_ordered c.args.nursery.now.words (word_at c.run.new.space.blocks) e.place) c.self.inside.registered.items
picked-are c = c.in_ok-extend_from_slice.ensures.items
    ∙ ap (λ (xs : List Entry). c.self.inside.chosen.items ++ xs)
    (c.deref-3.ensures.value ∙ c.in_ok-split.ensures.taken ∙ ap (filter (λ (e : Entry). is_ordered c.args.nursery.now.words (word_at c.run.new.space.blocks) e.place)) c.deref-2.ensures.value)

passed : (c : goal.After-settle) → HasPassed c.args.types.now c.args.nursery.now.words c.args.space.now c.run.new.space (places_of c.self.inside.registered.items) c.run.new.self.marked.items
passed c = subst (λ (es : List Entry). HasPassed c.args.types.now c.args.nursery.now.words c.args.space.now c.run.new.space (places_of es) c.run.new.self.marked.items) c.deref.ensures.value c.in_ok-run.ensures

pub invariant_of-self-2 : goal.invariant_of-self-2
invariant_of-self-2 c =
    let test : Entry → Bool = λ e. is_ordered c.args.nursery.now.words (word_at c.run.new.space.blocks) e.place in
    subst (λ (xs : List Entry). AreListed (contains nat_eq c.self.inside.births) xs c.extend_from_slice.new.self.items c.self.inside.queues.items) (sym (stays-are c))
    (subst (λ (ys : List Entry). AreListed (contains nat_eq c.self.inside.births) (filter (λ e. not (test e)) c.self.inside.registered.items) ys c.self.inside.queues.items) (sym (picked-are c))
    (listed_split test c.self.invariant))

pub returns-clause-chosen : goal.returns-clause-chosen
returns-clause-chosen c = on_ok c.settle.result
    (chooses c.self.inside.registered.items c.self.inside.chosen.items c.self.inside.queues.items (passed c) c.args.self.now c.swap.new.x.items c.extend_from_slice.new.self.items c.self.view_is (stays-are c) (picked-are c))

pub returns-clause-kept : goal.returns-clause-kept
returns-clause-kept c = on_ok-map c.settle.result
    (λ s. keeps c.self.inside.registered.items c.self.inside.chosen.items c.self.inside.queues.items (passed c) c.args.self.now c.self.view_is
    (subst (λ (ms : List ℕ). Settles ms c.run.new.space c.settle.new.space c.args.kept.now.items c.settle.new.kept.items) c.in_ok-split.ensures.marked s))
    c.settle.ensures.settled
