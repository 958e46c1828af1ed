use Rattle.std.proofs.Common.{◌≡◌, ◌+◌, ◌-◌, [], ◌∷◌, ap, refl, sym, ◌∙◌, length, arith}
use Rattle.std.proofs.lemmas.List.{length-append}
use Rattle.heap_space.specs.Places.{word_at}
use Rattle.mark_steps.specs.Visits.{outside_refs}
use Rattle.mark_steps.proofs.Refs.{refs-few}
use Rattle.mark_steps.proofs.Lists.{none-left}
use Rattle.mark_steps.proofs.VisitStep.{has-first}
use Rattle.mark_steps.proofs.MarkLoop.{marking-there, marking-passes, marking-visits, marking-stops, marking-empty}
use Rattle.mark_steps.proofs.marking.visit_all.Goals as goal

pub is_passed-requires : goal.is_passed-requires
is_passed-requires c = λ o.
    let i = c.loop-a.invariant in
    has-first c.loop-a.space c.args.types.now c.in-Some.a (i.can.whole c.in-Some.a (marking-there i c.in-Some.a c.pop_front.new.self.items c.in-Some.ensures.items o))

pub returns-then-words-left-clause-ok : goal.returns-then-words-left-clause-ok
returns-then-words-left-clause-ok c =
    let v = c.in_ok-words.ensures in
    marking-stops c.loop-a.invariant c.in-Some.a c.pop_front.new.self.items c.in-Some.ensures.items (sym c.if-not-is_passed.ensures)
    c.visit.new.space c.visit.new.places.items c.visit.new.visited.items v.marked v.queued v.birth c.in_ok-words.words v.words c.if-words-left.true

pub loop-a-smaller-then-not-is_passed : goal.loop-a-smaller-then-not-is_passed
loop-a-smaller-then-not-is_passed c =
    let v = c.in_ok-words.ensures in
    let was : length c.loop-a.places.items ≡ length (c.in-Some.a ∷ c.pop_front.new.self.items) = ap length c.in-Some.ensures.items in
    let now : length c.visit.new.places.items ≡ length c.pop_front.new.self.items + length (outside_refs c.args.types.now c.args.nursery.now.words (word_at c.loop-a.space.blocks) c.in-Some.a) =
    ap length v.queued ∙ length-append c.pop_front.new.self.items (outside_refs c.args.types.now c.args.nursery.now.words (word_at c.loop-a.space.blocks) c.in-Some.a) in
    let few = refs-few c.args.types.now c.args.nursery.now.words (word_at c.loop-a.space.blocks) c.in-Some.a in
    let less = c.if-words-left.false in
    let words = v.words in
    omega (arith, was, now, few, less, words)

pub loop-a-preserved-then-not-is_passed : goal.loop-a-preserved-then-not-is_passed
loop-a-preserved-then-not-is_passed c =
    let v = c.in_ok-words.ensures in
    marking-visits c.loop-a.invariant c.in-Some.a c.pop_front.new.self.items c.in-Some.ensures.items (sym c.if-not-is_passed.ensures)
    c.visit.new.space c.visit.new.places.items c.visit.new.visited.items v.marked v.queued v.birth c.in_ok-words.words v.words c.if-words-left.false

pub loop-a-preserved : goal.loop-a-preserved
loop-a-preserved c = marking-passes c.loop-a.invariant c.in-Some.a c.pop_front.new.self.items c.in-Some.ensures.items (sym c.if-not-is_passed.ensures)

pub returns-clause-ok : goal.returns-clause-ok
returns-clause-ok c =
    let e = c.in_default.ensures in
    let none : c.loop-a.places.items ≡ [] = none-left c.loop-a.places.items c.pop_front.new.self.items e.items e.rest in
    marking-empty c.loop-a.invariant c.pop_front.new.self.items none (sym e.items ∙ none) (c.args.budget - c.loop-a.left) refl
