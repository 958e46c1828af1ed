use Rattle.std.proofs.Common.{◌≡◌, ◌∙◌, ℕ, ◌+◌, ◌<◌, List, replicate, ap, sym, subst, arith}
use lib.ListN.{length-replicate}
use Rattle.heap_space.specs.Memory.{Memory}
use Rattle.heap_space.specs.Places.{Placed, with_word, with_run}
use Rattle.heap_space.specs.Seats.{IsSeat}
use Rattle.heap_space.specs.declared.runs.Seat.{Seat}
use Rattle.heap_space.proofs.Blocks.{with_run-fill, with_run-filled, with_run-nil}
use Rattle.heap_space.proofs.Seats.{seat-with_word}
use Rattle.heap_space.proofs.Fields.{run-in-nursery, nursery-areas, nursery-run}
use Rattle.heap_space.proofs.areas.Areas.fill_zero.Invariants.{FillsWords}
use Rattle.heap_space.proofs.areas.Areas.fill_zero.Goals as goal

-- one more word is filled
filled : (now old new : Memory) (first : Seat) (a n k : ℕ) → FillsWords now old first a n k → k < n
    → new ≡ record now { blocks = with_word now.blocks (a + k) 0 } → FillsWords new old first a n (k + 1)
filled now old new first a n k i l written =
    let next : List Placed = with_word now.blocks (a + k) 0 in
    let one : FillsWords (record now { blocks = next }) old first a n (k + 1) = record {
      left = with_run-fill now.blocks a n k l ∙ i.left;
      seats = λ j m. seat-with_word now.blocks (a + k) 0 (a + j) _ _ (i.seats j m);
      same = ap (λ (m : Memory). record m { blocks = next }) i.same;
    } in
    subst (λ (m : Memory). FillsWords m old first a n (k + 1)) (sym written) one

-- the seat of place number k
seat_at : (now old : Memory) (first : Seat) (a n k : ℕ) (seat : Seat) → FillsWords now old first a n k → k < n
    → seat ≡ record { block = first.block; offset = first.offset + k } → IsSeat now.blocks (a + k) seat.block seat.offset
seat_at now old first a n k seat i l e = subst (λ (t : Seat). IsSeat now.blocks (a + k) t.block t.offset) (sym e) (i.seats k l)

pub returns-then-n-eq0 : goal.returns-then-n-eq0
returns-then-n-eq0 c =
    let old = c.args.self.now in
    let none = ap (λ (n : ℕ). with_run old.blocks c.args.a (replicate n 0)) c.if-n-eq0.true ∙ with_run-nil old.blocks c.args.a in
    ap (λ (ps : List Placed). record old { blocks = ps }) (sym none)

pub overflow_sub-a : goal.overflow_sub-a
overflow_sub-a c =
    (run-in-nursery c.self.inside c.self.invariant _ c.self.view_is _ c.args.n (omega (arith, c.if-n-eq0.false)) c.requires c.if-a-lt-FIRST_ARENA.true).0

pub fill_zero-requires : goal.fill_zero-requires
fill_zero-requires c =
    (run-in-nursery c.self.inside c.self.invariant _ c.self.view_is _ c.args.n (omega (arith, c.if-n-eq0.false)) c.requires c.if-a-lt-FIRST_ARENA.true).1

pub invariant_of-self : goal.invariant_of-self
invariant_of-self c = nursery-areas c.self.inside c.self.invariant _ _ _ c.fill_zero.ensures

pub returns-then-a-lt-FIRST_ARENA : goal.returns-then-a-lt-FIRST_ARENA
returns-then-a-lt-FIRST_ARENA c =
    nursery-run c.self.inside c.self.invariant _ c.self.view_is _ c.args.n (omega (arith, c.if-n-eq0.false)) c.requires c.if-a-lt-FIRST_ARENA.true _ _
    (length-replicate c.args.n 0) c.fill_zero.ensures

pub set_word-requires : goal.set_word-requires
set_word-requires c = (c.args.a + c.loop-k.k, seat_at _ _ _ _ _ _ _ c.loop-k.invariant c.loop-k-test.true c.after.ensures)

pub loop-k-preserved : goal.loop-k-preserved
loop-k-preserved c =
    let i = c.loop-k.invariant in let k = c.loop-k.k in let a = c.args.a in let n = c.args.n in
    let written = c.set_word.ensures (a + k) (seat_at _ _ _ _ _ _ _ i c.loop-k-test.true c.after.ensures) in
    filled c.loop-k.self c.args.self.now c.set_word.new.self _ a n k i c.loop-k-test.true written

pub returns : goal.returns
returns c =
    let i = c.loop-k.invariant in let old = c.args.self.now in
    let none = with_run-filled c.loop-k.self.blocks (c.args.a + c.loop-k.k) c.args.n c.loop-k.k c.loop-k-test.false in
    i.same ∙ ap (λ (ps : List Placed). record old { blocks = ps }) (sym none ∙ i.left)
