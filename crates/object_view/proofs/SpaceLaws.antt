-- A memory as a function of places: what a write leaves, and that the words of a block have places that fit.
use Rattle.std.proofs.Common.{◌≡◌, ℕ, ◌+◌, ◌-◌, ◌^◌, ◌<◌, ◌≤◌, true, List, subst, arith}
use Rattle.std.proofs.Math.Path.{fun_ext}
use Rattle.object_model.specs.ObjectWords.{updated}
use Rattle.heap_space.specs.Places.{Placed, has, word_at, with_word, lies_in_one, RiseTo}
use Rattle.heap_space.specs.Memory.{Memory}
use Rattle.heap_space.specs.Order.{IsInOrder}
use Rattle.heap_space.proofs.Blocks.{word_at-with_word, lies-each}
use Rattle.heap_space.proofs.Rising.{has-within}

-- a memory with one word written is the old one, updated at that place
pub word_at-written : (ps : List Placed) (a v : ℕ) → has ps a ≡ true → word_at (with_word ps a v) ≡ updated (word_at ps) a v
word_at-written ps a v h = fun_ext (λ b. word_at-with_word ps a v b h)

-- where words lie in one block, the places behind them fit
pub lies-below : (ps : List Placed) (from end a n : ℕ) → RiseTo from ps end → 0 < n → lies_in_one ps a n ≡ true
    → (from ≤ a) × (a + n ≤ end)
lies-below ps from end a n rise some lies =
    let first = has-within from end (a + 0) ps rise (lies-each ps a n 0 lies some) in
    let last = has-within from end (a + (n - 1)) ps rise (lies-each ps a n (n - 1) lies (omega (arith, some))) in
    (omega (arith, first.0), omega (arith, last.1, some))

pub lies-fits : (m : Memory) (a n : ℕ) → IsInOrder m → 0 < n → lies_in_one m.blocks a n ≡ true
    → (1 ≤ a) × (a + n < 2 ^ 63)
lies-fits m a n o some lies =
    let l = lies-below m.blocks 1 m.next_large a n o.rises some lies in (l.0, omega (arith, l.1, o.large_small))

-- a place among words that lie in one block
pub lies-at : (ps : List Placed) (a n b : ℕ) → lies_in_one ps a n ≡ true → a ≤ b → b < a + n → has ps b ≡ true
lies-at ps a n b lies l m =
    let e : a + (b - a) ≡ b = omega (arith, l) in
    let P : ℕ → Type 0 = λ k. has ps k ≡ true in subst P e (lies-each ps a n (b - a) lies (omega (arith, l, m)))
