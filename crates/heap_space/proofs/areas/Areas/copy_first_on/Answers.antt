use Rattle.std.proofs.Common.{◌≡◌, ◌∙◌, ℕ, ◌+◌, ◌<◌, ◌≤◌, List, ap, sym, subst, arith}
use Rattle.heap_space.specs.Memory.{Memory}
use Rattle.heap_space.specs.Places.{Placed, word_at, with_word}
use Rattle.heap_space.specs.Seats.{IsSeat}
use Rattle.heap_space.specs.declared.runs.Seat.{Seat}
use Rattle.heap_space.proofs.Blocks.{with_run-copy, with_run-copied, word_at-elsewhere}
use Rattle.heap_space.proofs.Seats.{seat-with_word}
use Rattle.heap_space.proofs.areas.Areas.copy_first_on.Invariants.{CopiesWords}
use Rattle.heap_space.proofs.areas.Areas.copy_first_on.Goals as goal

-- one more word is copied
copied : (now old new : Memory) (source target : Seat) (from to n k x : ℕ)
    → CopiesWords now old source target from to n k → k < n
    → to ≤ from → x ≡ word_at now.blocks (from + k)
    → new ≡ record now { blocks = with_word now.blocks (to + k) x }
    → CopiesWords new old source target from to n (k + 1)
copied now old new source target from to n k x i l order read written =
    let next : List Placed = with_word now.blocks (to + k) x in
    let old_word : x ≡ word_at old.blocks (from + k) = read ∙ i.source_words k (omega arith) in
    let moved : CopiesWords (record now { blocks = next }) old source target from to n (k + 1) = record {
      left = with_run-copy old.blocks now.blocks from to n k x l old_word ∙ i.left;
      source_seats = λ j m. seat-with_word now.blocks (to + k) x (from + j) _ _ (i.source_seats j m);
      target_seats = λ j m. seat-with_word now.blocks (to + k) x (to + j) _ _ (i.target_seats j m);
      source_words = λ j m.
          word_at-elsewhere now.blocks (to + k) x (from + j) (λ e. omega (arith, e, m, order)) ∙ i.source_words j (omega (arith, m));
      same = ap (λ (m : Memory). record m { blocks = next }) i.same;
    } in
    subst (λ (m : Memory). CopiesWords m old source target from to n (k + 1)) (sym written) moved

-- the seat of place number k
source_seat : (now old : Memory) (source target : Seat) (from to n k : ℕ) (seat : Seat)
    → CopiesWords now old source target from to n k → k < n
    → seat ≡ record { block = source.block; offset = source.offset + k }
    → IsSeat now.blocks (from + k) seat.block seat.offset
source_seat now old source target from to n k seat i l e =
    subst (λ (t : Seat). IsSeat now.blocks (from + k) t.block t.offset) (sym e) (i.source_seats k l)

target_seat : (now old : Memory) (source target : Seat) (from to n k : ℕ) (seat : Seat)
    → CopiesWords now old source target from to n k → k < n
    → seat ≡ record { block = target.block; offset = target.offset + k }
    → IsSeat now.blocks (to + k) seat.block seat.offset
target_seat now old source target from to n k seat i l e =
    subst (λ (t : Seat). IsSeat now.blocks (to + k) t.block t.offset) (sym e) (i.target_seats k l)

pub word-word-requires : goal.word-word-requires
word-word-requires c =
    (c.args.from + c.loop-k.k, source_seat _ _ _ _ _ _ _ _ _ c.loop-k.invariant c.loop-k-test.true c.after.ensures)

pub set_word-requires : goal.set_word-requires
set_word-requires c =
    (c.args.to + c.loop-k.k, target_seat _ _ _ _ _ _ _ _ _ c.loop-k.invariant c.loop-k-test.true c.after-in-loop-k.ensures)

pub loop-k-preserved : goal.loop-k-preserved
loop-k-preserved c =
    let i = c.loop-k.invariant in let k = c.loop-k.k in let below = c.loop-k-test.true in
    let now = c.loop-k.self in let old = c.args.self.now in let x = c.word-word.result in
    let from = c.args.from in let to = c.args.to in let n = c.args.n in
    let read = c.word-word.ensures (from + k) (source_seat _ _ _ _ _ _ _ _ _ i below c.after.ensures) in
    let written = c.set_word.ensures (to + k) (target_seat _ _ _ _ _ _ _ _ _ i below c.after-in-loop-k.ensures) in
    copied now old c.set_word.new.self _ _ from to n k x i below c.requires.order read written

pub returns : goal.returns
returns c =
    let i = c.loop-k.invariant in let old = c.args.self.now in
    let none = with_run-copied c.loop-k.self.blocks old.blocks (c.args.from + c.loop-k.k) (c.args.to + c.loop-k.k) c.args.n c.loop-k.k c.loop-k-test.false in
    i.same ∙ ap (λ (ps : List Placed). record old { blocks = ps }) (sym none ∙ i.left)
