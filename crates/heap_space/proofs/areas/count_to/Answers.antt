use Rattle.std.proofs.Common.{rules, of_calls, arith}
use Rattle.std.specs.Prelude.{nat_le}
use Rattle.std.proofs.lemmas.Fn.{always_returns_same}
use Rattle.std.proofs.lemmas.Bool.Decides.{nat_tests}
use Rattle.heap_space.proofs.Larges.{bases-rise}
use Rattle.heap_space.proofs.areas.count_to.Goals as goal

pub returns-clause-parts : goal.returns-clause-parts
returns-clause-parts c =
    let ps = c.args.larges.now in
    let point = c.partition_point.ensures.partitioned (λ p. nat_le p.base c.args.a)
    (always_returns_same _ _ _ (λ a r f k. search (rules, of_calls)))
    (λ i j d l m up. let rise = bases-rise _ _ i j ps d c.requires.1 l m in grind (arith, nat_tests)) in
    record {
      below = λ k d l. let e = point.0 k d (omega arith) l in grind (arith, nat_tests);
      above = λ k d l m. let e = point.1 k d l m in grind (arith, nat_tests);
    }
