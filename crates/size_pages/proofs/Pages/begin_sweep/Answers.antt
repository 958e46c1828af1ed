use Rattle.std.proofs.Common.{arith, List, ℕ, refl, sym, ap, subst}
use Rattle.size_pages.specs.Growth.{IsOnlyOrder}
use Rattle.size_pages.proofs.BeginSweepLaws.{WaitsBut, waits_start, can_wait_next, waits_next, waits_end, sweep_begun}
use Rattle.size_pages.proofs.Pages.begin_sweep.Goals as goal
use Rattle.size_pages.proofs.Pages.begin_sweep.Goals.{After-pop}

-- a place is popped off the order
popped : (c : After-pop) → IsOnlyOrder c.loop-page.self (record c.loop-page.self { order = c.pop.new.self })
popped c = record { sizes = record { page = refl; pages_per_arena = refl; small = refl }; count = refl; lowest = refl; waiting = refl; heads = refl; room = omega (arith, c.pop.ensures.capacity) }

pub loop-page-init : goal.loop-page-init
loop-page-init c = waits_start c.args.self.now c.order_pages.new.self c.args.space.now c.order_pages.new.self.order.items c.order_pages.ensures.ordered c.order_pages.ensures.order

pub wait_page-requires : goal.wait_page-requires
wait_page-requires c =
    let state = subst (λ (xs : List ℕ). WaitsBut c.args.self.now c.loop-page.self c.args.space.now c.loop-page.space xs) c.in-Some.ensures.items c.loop-page.invariant in
    can_wait_next c.args.self.now c.loop-page.self (record c.loop-page.self { order = c.pop.new.self }) c.args.space.now c.loop-page.space c.pop.new.self.items c.in-Some.page c.requires state (popped (goal.at.wait_page-requires c).After-pop)

pub loop-page-preserved : goal.loop-page-preserved
loop-page-preserved c =
    let state = subst (λ (xs : List ℕ). WaitsBut c.args.self.now c.loop-page.self c.args.space.now c.loop-page.space xs) c.in-Some.ensures.items c.loop-page.invariant in
    subst (λ (xs : List ℕ). WaitsBut c.args.self.now c.wait_page.new.self c.args.space.now c.wait_page.new.space xs) (sym (ap (λ v. v.items) c.wait_page.ensures.order))
    (waits_next c.args.self.now c.loop-page.self (record c.loop-page.self { order = c.pop.new.self }) c.args.space.now c.loop-page.space c.pop.new.self.items c.in-Some.page c.requires state (popped (goal.at.loop-page-preserved c).After-pop) c.wait_page.new.self c.wait_page.new.space c.wait_page.ensures)

pub returns-clause-begun : goal.returns-clause-begun
returns-clause-begun c =
    let less = record c.loop-page.self { order = c.pop.new.self } in
    sweep_begun c.args.self.now less c.args.space.now c.loop-page.space
    (waits_end c.args.self.now c.loop-page.self less c.args.space.now c.loop-page.space c.loop-page.self.order.items (omega (arith, c.in_default.ensures.cases.0, c.loop-page.self.order.ok)) (popped (goal.at.returns-clause-begun c).After-pop) c.loop-page.invariant)

pub returns-clause-stands : goal.returns-clause-stands
returns-clause-stands c =
    let n = c.requires in
    let less = record c.loop-page.self { order = c.pop.new.self } in
    let state = waits_end c.args.self.now c.loop-page.self less c.args.space.now c.loop-page.space c.loop-page.self.order.items (omega (arith, c.in_default.ensures.cases.0, c.loop-page.self.order.ok)) (popped (goal.at.returns-clause-stands c).After-pop) c.loop-page.invariant in
    record { live = n.live; waiting = state.waiting; fits = state.fits n.live n.fits }
