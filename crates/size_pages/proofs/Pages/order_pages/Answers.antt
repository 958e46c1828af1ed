use Rattle.std.proofs.Common.{◌-◌, length, vec_len, vec_capacity, arith, refl, ap}
use Rattle.std.proofs.lemmas.List.Sorted.{IsNonDecreasingBy-from_sort}
use Rattle.size_pages.proofs.UsedLaws.{head_is, list_from, can_gather, gathered_next, in_order}
use Rattle.size_pages.proofs.Pages.order_pages.Goals as goal

pub gather_list-requires : goal.gather_list-requires
gather_list-requires c =
    can_gather c.args.self.now c.args.space.now c.requires c.loop-list.list c.index.result.now (vec_len c.loop-list.self.order) (vec_capacity c.loop-list.self.order) c.loop-list.invariant.1 (head_is c.args.self.now.heads.items c.loop-list.self.heads.items c.loop-list.list c.index.result.now c.index.ensures c.loop-list.invariant.0.heads (omega (arith, c.loop-list-test.true, c.len-list-end.ensures, c.args.self.now.heads.ok)))
    (omega (arith, c.loop-list.self.order.ok, ap length (c.loop-list.invariant.2 c.requires))) c.loop-list.invariant.0.room

pub loop-list-init : goal.loop-list-init
loop-list-init c = (record { sizes = record { page = refl; pages_per_arena = refl; small = refl }; count = refl; lowest = refl; waiting = refl; heads = refl; room = omega (arith, c.clear.ensures.capacity) }, omega arith, λ n. c.clear.ensures.items)

pub loop-list-preserved : goal.loop-list-preserved
loop-list-preserved c =
    let only = c.loop-list.invariant.0 in (
      record { sizes = record { page = only.sizes.page; pages_per_arena = only.sizes.pages_per_arena; small = only.sizes.small }; count = only.count; lowest = only.lowest; waiting = only.waiting; heads = only.heads; room = omega (arith, only.room, c.gather_list.ensures.room) },
      omega (arith, c.loop-list.invariant.1),
      λ n. gathered_next c.args.space.now n.fits.lists.lists c.loop-list.list c.index.result.now c.loop-list.self.order.items c.gather_list.new.order.items c.loop-list.invariant.1
          (list_from c.args.self.now c.args.space.now n c.loop-list.list c.index.result.now (head_is c.args.self.now.heads.items c.loop-list.self.heads.items c.loop-list.list c.index.result.now c.index.ensures c.loop-list.invariant.0.heads (omega (arith, c.loop-list-test.true, c.len-list-end.ensures, c.args.self.now.heads.ok)))) (c.loop-list.invariant.2 n) c.gather_list.ensures.gathered,
    )

pub returns-clause-ordered : goal.returns-clause-ordered
returns-clause-ordered c =
    let only = c.loop-list.invariant.0 in
    in_order c.args.self.now c.args.space.now c.requires (c.loop-list.list - 2) c.loop-list.self.order.items c.sort_unstable.new.self.items (c.loop-list.invariant.2 c.requires)
    (omega (arith, c.loop-list-test.false, c.len-list-end.ensures, c.args.self.now.heads.ok, c.loop-list.invariant.1)) c.sort_unstable.ensures.permutation (IsNonDecreasingBy-from_sort (λ x. x) c.sort_unstable.new.self.items c.sort_unstable.ensures.sorted)

pub returns-clause-order : goal.returns-clause-order
returns-clause-order c =
    let only = c.loop-list.invariant.0 in
    record { sizes = record { page = only.sizes.page; pages_per_arena = only.sizes.pages_per_arena; small = only.sizes.small }; count = only.count; lowest = only.lowest; waiting = only.waiting; heads = only.heads; room = omega (arith, only.room, c.sort_unstable.ensures.capacity) }
