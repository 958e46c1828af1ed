use Rattle.std.proofs.Common.{◌∙◌, ◌+◌, ◌^◌, ◌<◌, List, ℕ, ap, subst, arith}
use Rattle.heap_space.specs.Memory.{Memory, with_large}
use Rattle.heap_space.specs.Order.{IsInOrder}
use Rattle.heap_space.proofs.Fields.{in-order, add-large}
use Rattle.heap_space.proofs.areas.Areas.add_large.Goals as goal

pub invariant_of-self-2 : goal.invariant_of-self-2
invariant_of-self-2 c =
    let s = c.self.inside in
    let new = c.new.ensures ∙ ap (λ (words : List ℕ). record { base = s.next_large; words = words }) c.in_ok-words.ensures in
    let room : s.next_large + c.args.n < 2 ^ 63 = omega (arith, c.if-base-n.false) in
    (add-large s c.self.invariant c.new.result c.push.new.self c.args.n c.in_ok-push.ensures.items new room).0

pub returns-clause-ok : goal.returns-clause-ok
returns-clause-ok c =
    let s = c.self.inside in
    let new = c.new.ensures ∙ ap (λ (words : List ℕ). record { base = s.next_large; words = words }) c.in_ok-words.ensures in
    let room : s.next_large + c.args.n < 2 ^ 63 = omega (arith, c.if-base-n.false) in
    let added = (add-large s c.self.invariant c.new.result c.push.new.self c.args.n c.in_ok-push.ensures.items new room).1 in
    (ap (λ (m : Memory). m.next_large) c.self.view_is, added ∙ ap (λ (m : Memory). with_large m c.args.n) c.self.view_is)

pub returns-clause-ordered : goal.returns-clause-ordered
returns-clause-ordered c =
    let s = c.self.inside in
    let new = c.new.ensures ∙ ap (λ (words : List ℕ). record { base = s.next_large; words = words }) c.in_ok-words.ensures in
    let room : s.next_large + c.args.n < 2 ^ 63 = omega (arith, c.if-base-n.false) in
    in-order _ (add-large s c.self.invariant c.new.result c.push.new.self c.args.n c.in_ok-push.ensures.items new room).0

pub returns-then-base-n-clause-ordered : goal.returns-then-base-n-clause-ordered
returns-then-base-n-clause-ordered c = subst IsInOrder c.self.view_is (in-order _ c.self.invariant)

pub returns-in_err-words-clause-ordered : goal.returns-in_err-words-clause-ordered
returns-in_err-words-clause-ordered c = subst IsInOrder c.self.view_is (in-order _ c.self.invariant)

pub returns-in_err-push-clause-ordered : goal.returns-in_err-push-clause-ordered
returns-in_err-push-clause-ordered c = rw c.in_err-push.ensures.items (in-order _ c.self.invariant)
