use Rattle.std.proofs.Common.{arith, refl, ◌∙◌, subst, sym, List, [], ◌∷◌, ◌++◌, ℕ}
use Rattle.size_pages.proofs.WalkLaws.{IsWalked, walk_start, walk_next, walk_end}
use Rattle.size_pages.proofs.gathering.gather_list.Goals as goal

pub loop-page-init : goal.loop-page-init
loop-page-init c = (refl, λ list h. walk_start c.args.space.now c.args.order.now.items c.args.first list h)

pub push_reserved-requires : goal.push_reserved-requires
push_reserved-requires c =
    let n = walk_next c.args.space.now c.args.order.now.items c.loop-page.order.items c.loop-page.page c.requires.list c.loop-page-test.true (c.loop-page.invariant.1 c.requires.list c.requires.is_list) in
    omega (arith, n.few, c.requires.enough, c.loop-page.invariant.0, c.args.order.now.ok, c.loop-page.order.ok)

pub next-page-requires : goal.next-page-requires
next-page-requires c = (walk_next c.args.space.now c.args.order.now.items c.loop-page.order.items c.loop-page.page c.requires.list c.loop-page-test.true (c.loop-page.invariant.1 c.requires.list c.requires.is_list)).word

pub loop-page-preserved : goal.loop-page-preserved
loop-page-preserved c = (
  c.push_reserved.ensures.capacity ∙ c.loop-page.invariant.0,
  λ list h.
      let n = walk_next c.args.space.now c.args.order.now.items c.loop-page.order.items c.loop-page.page list c.loop-page-test.true (c.loop-page.invariant.1 list h) in
      subst (λ (items : List ℕ). IsWalked c.args.space.now c.args.order.now.items items c.next-page.result list) (sym c.push_reserved.ensures.items) (subst (λ (page : ℕ). IsWalked c.args.space.now c.args.order.now.items (c.loop-page.order.items ++ c.loop-page.page ∷ []) page list) (sym c.next-page.ensures) n.walked),
)

pub returns-clause-gathered : goal.returns-clause-gathered
returns-clause-gathered c list h = walk_end c.args.space.now c.args.order.now.items c.loop-page.order.items c.loop-page.page list (c.loop-page-test.false) (c.loop-page.invariant.1 list h)
