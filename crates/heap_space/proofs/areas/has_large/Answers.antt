use Rattle.std.proofs.Common.{◌≡◌, ◌∙◌, ◌-◌, ◌<◌, ◌≤◌, sym, ap, subst, arith}
use Rattle.std.proofs.lemmas.Bool.Decides.{nat_tests}
use Rattle.std.specs.Prelude.{nat_lt}
use Rattle.heap_space.specs.Places.{Placed, covers}
use Rattle.heap_space.proofs.Larges.{has-parted_none, covers-parted}
use Rattle.heap_space.proofs.areas.has_large.Goals as goal

pub returns-then-count-eq0 : goal.returns-then-count-eq0
returns-then-count-eq0 c = sym (has-parted_none _ _ _ _ _ c.requires.1 c.count_to-count.ensures.parts c.if-count-eq0.true)

pub returns : goal.returns
returns c =
    let x = c.index-larges-count.result in let n = c.count_to-count.result in
    let parts = c.count_to-count.ensures.parts in
    let some : 0 < n = omega (arith, c.if-count-eq0.false) in
    let low = subst (λ (p : Placed). p.base ≤ c.args.a) (sym c.index-larges-count.is) (parts.below (n - 1) x (omega (arith, some))) in
    let test : nat_lt (c.args.a - c.base.result) c.len.result ≡ covers x c.args.a = grind (arith, nat_tests, c.len.ensures, c.base.ensures, low) in
    test ∙ ap (λ (p : Placed). covers p c.args.a) c.index-larges-count.is
    ∙ covers-parted _ _ c.args.a n c.args.larges.now x c.requires.1 parts some c.count_to-count.ensures.bound
