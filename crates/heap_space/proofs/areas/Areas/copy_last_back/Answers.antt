use Rattle.std.proofs.Common.{◌≡◌, ◌∙◌, ℕ, suc, ◌+◌, ◌-◌, ◌<◌, ◌≤◌, List, ◌∷◌, [], ◌++◌, length, ap, sym, subst, refl, arith}
use Rattle.heap_space.specs.Memory.{Memory}
use Rattle.heap_space.specs.Places.{Placed, word_at, with_word, with_run, run_at}
use Rattle.heap_space.specs.Seats.{IsSeat}
use Rattle.heap_space.specs.declared.runs.Seat.{Seat}
use Rattle.heap_space.proofs.Blocks.{with_run-nil, word_at-elsewhere, length-run_at}
use Rattle.heap_space.proofs.LastWords.{run-last, run_at-last}
use Rattle.heap_space.proofs.Seats.{seat-with_word}
use Rattle.heap_space.proofs.areas.Areas.copy_last_back.Invariants.{CopiesBack}
use Rattle.heap_space.proofs.areas.Areas.copy_last_back.Goals as goal

-- one more word is copied
copied : (now old new : Memory) (source target : Seat) (from to n m k left x : ℕ)
    → CopiesBack now old source target from to n m → m ≡ suc k → k ≡ left → from ≤ to → x ≡ word_at now.blocks (from + k)
    → new ≡ record now { blocks = with_word now.blocks (to + k) x }
    → CopiesBack new old source target from to n left
copied now old new source target from to n m k left x i e less order read written =
    let next : List Placed = with_word now.blocks (to + k) x in
    let first : List ℕ = run_at old.blocks from k in
    let size : k ≡ length first = sym (length-run_at old.blocks from k) in
    let old_word : x ≡ word_at old.blocks (from + k) = read ∙ i.source_words k (omega (arith, e)) in
    let moved : CopiesBack (record now { blocks = next }) old source target from to n k = record {
      left = ap (λ (j : ℕ). with_run (with_word now.blocks (to + j) x) to first) size ∙ run-last now.blocks to x first
          ∙ ap (λ (y : ℕ). with_run now.blocks to (first ++ y ∷ [])) old_word
          ∙ ap (with_run now.blocks to) (sym (run_at-last old.blocks from k))
          ∙ ap (λ (j : ℕ). with_run now.blocks to (run_at old.blocks from j)) (sym e) ∙ i.left;
      source_seats = λ j l. seat-with_word now.blocks (to + k) x (from + j) _ _ (i.source_seats j l);
      target_seats = λ j l. seat-with_word now.blocks (to + k) x (to + j) _ _ (i.target_seats j l);
      source_words = λ j l. word_at-elsewhere now.blocks (to + k) x (from + j) (λ z. omega (arith, z, l, order)) ∙ i.source_words j (omega (arith, l, e));
      same = ap (λ (m : Memory). record m { blocks = next }) i.same;
    } in
    subst (CopiesBack new old source target from to n) less
    (subst (λ (m : Memory). CopiesBack m old source target from to n k) (sym written) moved)

-- the seat of place number k
source_seat : (now old : Memory) (source target : Seat) (from to n m k : ℕ) (seat : Seat)
    → CopiesBack now old source target from to n m → k < n
    → seat ≡ record { block = source.block; offset = source.offset + k }
    → IsSeat now.blocks (from + k) seat.block seat.offset
source_seat now old source target from to n m k seat i l e =
    subst (λ (t : Seat). IsSeat now.blocks (from + k) t.block t.offset) (sym e) (i.source_seats k l)

target_seat : (now old : Memory) (source target : Seat) (from to n m k : ℕ) (seat : Seat)
    → CopiesBack now old source target from to n m → k < n
    → seat ≡ record { block = target.block; offset = target.offset + k }
    → IsSeat now.blocks (to + k) seat.block seat.offset
target_seat now old source target from to n m k seat i l e =
    subst (λ (t : Seat). IsSeat now.blocks (to + k) t.block t.offset) (sym e) (i.target_seats k l)

pub word-word-requires : goal.word-word-requires
word-word-requires c =
    let last : ℕ = c.args.n - 1 - c.loop-step.step in
    (c.args.from + last, source_seat _ _ _ _ _ _ _ _ last _ c.loop-step.invariant (omega (arith, c.loop-step-test.true)) c.after.ensures)

pub set_word-requires : goal.set_word-requires
set_word-requires c =
    let last : ℕ = c.args.n - 1 - c.loop-step.step in
    (c.args.to + last, target_seat _ _ _ _ _ _ _ _ last _ c.loop-step.invariant (omega (arith, c.loop-step-test.true)) c.after-in-loop-step.ensures)

pub loop-step-init : goal.loop-step-init
loop-step-init c =
    let old : Memory = c.args.self.now in
    let all : c.args.n - 0 ≡ c.args.n = omega arith in record {
      left = ap (λ (k : ℕ). with_run old.blocks c.args.to (run_at old.blocks c.args.from k)) all;
      source_seats = c.run_seat-source.ensures.seats;
      target_seats = c.run_seat-target.ensures.seats;
      source_words = λ j l. refl;
      same = refl;
    }

pub loop-step-preserved : goal.loop-step-preserved
loop-step-preserved c =
    let i = c.loop-step.invariant in let step : ℕ = c.loop-step.step in let n : ℕ = c.args.n in
    let last : ℕ = n - 1 - step in
    let inside : last < n = omega (arith, c.loop-step-test.true) in
    let more : n - step ≡ suc last = omega (arith, c.loop-step-test.true) in
    let less : last ≡ n - (step + 1) = omega (arith, c.loop-step-test.true) in
    let now = c.loop-step.self in let old = c.args.self.now in let from = c.args.from in let to = c.args.to in
    let read = c.word-word.ensures (from + last) (source_seat _ _ _ _ _ _ _ _ last _ i inside c.after.ensures) in
    let written = c.set_word.ensures (to + last) (target_seat _ _ _ _ _ _ _ _ last _ i inside c.after-in-loop-step.ensures) in
    copied now old c.set_word.new.self _ _ from to n (n - step) last _ c.word-word.result i more less c.requires.order read written

pub returns : goal.returns
returns c =
    let i = c.loop-step.invariant in let old = c.args.self.now in let now = c.loop-step.self in
    let none : c.args.n - c.loop-step.step ≡ 0 = omega (arith, c.loop-step-test.false) in
    i.same ∙ ap (λ (ps : List Placed). record old { blocks = ps })
    (sym (with_run-nil now.blocks c.args.to) ∙ ap (λ (k : ℕ). with_run now.blocks c.args.to (run_at old.blocks c.args.from k)) (sym none) ∙ i.left)
