use Rattle.std.proofs.Common.{subst, arith}
use Rattle.heap_space.specs.Memory.{Memory}
use Rattle.heap_space.specs.Places.{RiseTo}
use Rattle.heap_space.proofs.Blocks.{lies-has}
use Rattle.heap_space.proofs.Seats.{run-seat, run-small}
use Rattle.heap_space.proofs.Fields.{space-rises, nursery_of}
use Rattle.heap_space.proofs.areas.Areas.run_seat.Goals as goal

pub seat-requires : goal.seat-requires
seat-requires c = lies-has c.args.self.now.blocks c.args.a c.args.n c.requires.some c.requires.together

pub returns-clause-seats : goal.returns-clause-seats
returns-clause-seats c j l =
    let s = c.self.inside in
    let rise = subst (λ (m : Memory). RiseTo 1 m.blocks s.next_large) c.self.view_is (space-rises s c.self.invariant) in
    run-seat 1 _ c.args.a c.args.n _ _ j _ rise c.requires.some c.requires.together c.seat.ensures l

pub returns-clause-small : goal.returns-clause-small
returns-clause-small c =
    let s = c.self.inside in
    let rise = subst (λ (m : Memory). RiseTo 1 m.blocks s.next_large) c.self.view_is (space-rises s c.self.invariant) in
    let fits = run-small 1 _ c.args.a c.args.n _ _ _ (nursery_of s) rise c.requires.some c.requires.together c.seat.ensures in
    let small = c.self.invariant.large_small in omega arith
