use Rattle.std.proofs.Common.{sym, subst, ◌∙◌, List, ℕ, []}
use Rattle.finalizer_order.proofs.PassSteps.{SecondSome, second_begins, second-has, second-whole, second_skips, second_takes}
use Rattle.finalizer_order.proofs.passes.second_pass.Goals as goal

pub loop-place-init : goal.loop-place-init
loop-place-init c =
    let cs : List ℕ = c.args.candidates.now.items in
    subst (λ (ms : List ℕ). SecondSome c.args.types.now c.args.nursery.now.words c.args.space.now c.args.space.now cs cs ms c.args.found.now.items) (sym c.requires.none_marked)
    (subst (λ (fs : List ℕ). SecondSome c.args.types.now c.args.nursery.now.words c.args.space.now c.args.space.now cs cs [] fs) (sym c.requires.none_found)
    (second_begins c.args.types.now c.args.nursery.now.words c.args.space.now cs c.requires.can))

pub is_unmarked-requires : goal.is_unmarked-requires
is_unmarked-requires c = second-has c.requires.can c.requires.unvisited c.requires.none_later c.pop.new.self.items c.in-Some.place c.loop-place.invariant c.in-Some.ensures.items

pub mark_from-requires-clause-whole : goal.mark_from-requires-clause-whole
mark_from-requires-clause-whole c = second-whole c.requires.can c.requires.unvisited c.requires.none_later c.pop.new.self.items c.in-Some.place c.loop-place.invariant c.in-Some.ensures.items

pub loop-place-preserved-in-Continue-branch-2 : goal.loop-place-preserved-in-Continue-branch-2
loop-place-preserved-in-Continue-branch-2 c = rw c.in_ok-push.ensures.items
    (second_takes c.requires.can c.requires.unvisited c.requires.none_later c.pop.new.self.items c.in-Some.place c.loop-place.invariant c.in-Some.ensures.items
    c.mark_from.new.space c.mark_from.new.marked.items (sym c.is_unmarked.ensures ∙ c.if-is_unmarked.true) c.in_ok-mark_from.ensures)

pub loop-place-preserved : goal.loop-place-preserved
loop-place-preserved c = second_skips c.requires.can c.requires.unvisited c.requires.none_later c.pop.new.self.items c.in-Some.place c.loop-place.invariant c.in-Some.ensures.items
    (sym c.is_unmarked.ensures ∙ c.if-is_unmarked.false)
