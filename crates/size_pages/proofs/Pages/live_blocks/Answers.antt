use Rattle.std.proofs.Common.{arith, ◌≡◌, ℕ, subst}
use Rattle.size_pages.proofs.ListingLaws.{ListedTo, listed_none, listed_page_more, listed_all}
use Rattle.size_pages.proofs.Pages.live_blocks.Goals as goal

pub loop-number-init : goal.loop-number-init
loop-number-init c = listed_none c.args.self.now c.args.space.now c.args.out.now.items

pub loop-number-preserved : goal.loop-number-preserved
loop-number-preserved c = listed_page_more c.args.self.now c.args.space.now c.args.out.now.items c.loop-number.out.items c.list_blocks.new.out.items c.loop-number.number c.loop-number.invariant c.in_ok-list_blocks.ensures.listed c.list_blocks.ensures.more

pub returns-clause-listed : goal.returns-clause-listed
returns-clause-listed c =
    let e : c.loop-number.number ≡ c.args.self.now.count = omega (arith, c.loop-number-test.false, c.loop-number.auto.number-end) in
    listed_all c.args.self.now c.args.space.now c.args.out.now.items c.loop-number.out.items (subst (λ (k : ℕ). ListedTo c.args.self.now c.args.space.now c.args.out.now.items c.loop-number.out.items k) e c.loop-number.invariant)
