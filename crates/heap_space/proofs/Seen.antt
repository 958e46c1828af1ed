-- A memory and what is seen of it: its emptied blocks hold no place, so that nothing depends on them.
use Rattle.std.proofs.Common.{◌≡◌, ℕ, zero, suc, ◌+◌, ◌<◌, true, List, [], ◌∷◌, length, map, refl, sym, ap, ◌∙◌, arith, inl, inr}
use Rattle.std.proofs.lemmas.Bool.{cases_Bool}
use Rattle.std.proofs.lemmas.Bool.Decides.{nat_tests}
use Rattle.std.specs.Prelude.{nat_lt}
use Rattle.heap_space.specs.Places.{Placed, end_of, has, word_at, written, with_word, lies_in_one, run_at, overwritten, with_run, zeros_at, with_block, is_base, without_block, RiseTo}
use Rattle.heap_space.specs.Memory.{Memory, with_arena, with_large, without_large}
use Rattle.heap_space.specs.Order.{IsInOrder}
use Rattle.heap_space.specs.Seats.{has_words, full_blocks, seen, emptied, with_emptied}
use Rattle.heap_space.proofs.Blocks.{length-written, length-overwritten, length-zeros_at}
use Rattle.heap_space.proofs.Rising.{with_block-first}
use Rattle.heap_space.proofs.Larges.{rise-full}

pub has-full : (ps : List Placed) (a : ℕ) → has (full_blocks ps) a ≡ has ps a
has-full [] a = refl
has-full (p ∷ ps) a = grind (arith, nat_tests, has-full ps a)

pub word_at-full : (ps : List Placed) (a : ℕ) → word_at (full_blocks ps) a ≡ word_at ps a
word_at-full [] a = refl
word_at-full (p ∷ ps) a = grind (arith, nat_tests, word_at-full ps a)

pub is_base-full : (ps : List Placed) (a : ℕ) → is_base (full_blocks ps) a ≡ is_base ps a
is_base-full [] a = refl
is_base-full (p ∷ ps) a = grind (arith, nat_tests, is_base-full ps a)

pub lies-full : (ps : List Placed) (a n : ℕ) → lies_in_one (full_blocks ps) a n ≡ true → lies_in_one ps a n ≡ true
lies-full [] a n h = h
lies-full (p ∷ ps) a n h = grind (arith, nat_tests, lies-full ps a n)

pub run_at-full : (ps : List Placed) (a n : ℕ) → run_at (full_blocks ps) a n ≡ run_at ps a n
run_at-full ps a zero = refl
run_at-full ps a (suc n) = grind (arith, word_at-full ps a, run_at-full ps (a + 1) n)

has_words-long : (p q : Placed) → length p.words ≡ length q.words → has_words p ≡ has_words q
has_words-long p q e = ap (nat_lt 0) e

pub with_word-full : (ps : List Placed) (a v : ℕ) → with_word (full_blocks ps) a v ≡ full_blocks (with_word ps a v)
with_word-full [] a v = refl
with_word-full (p ∷ ps) a v =
    grind (arith, has_words-long (written a v p) p (length-written a v p), with_word-full ps a v)

pub with_run-full : (ps : List Placed) (a : ℕ) (xs : List ℕ)
    → with_run (full_blocks ps) a xs ≡ full_blocks (with_run ps a xs)
with_run-full [] a xs = refl
with_run-full (p ∷ ps) a xs =
    grind (arith, has_words-long (overwritten a xs p) p (length-overwritten a xs p), with_run-full ps a xs)

pub with_block-full : (from end : ℕ) (ps : List Placed) (q : Placed) → RiseTo from (with_block ps q) end
    → 0 < length q.words
    → with_block (full_blocks ps) q ≡ full_blocks (with_block ps q)
with_block-full from end [] q r l = let t : has_words q ≡ true = grind (arith, nat_tests) in rw t refl
with_block-full from end (p ∷ ps) q r l = elim (cases_Bool (nat_lt q.base p.base)) [
  | inl t ↦ (let w : has_words q ≡ true = grind (arith, nat_tests) in let low : q.base < p.base = grind (arith, nat_tests) in
      let whole : RiseTo from (q ∷ p ∷ ps) end = (rw t at r) in
      let rise : RiseTo p.base (p ∷ ps) end = (omega arith, whole.1.1) in
      rw (t, w) (with_block-first p.base end (full_blocks (p ∷ ps)) q (rise-full p.base end (p ∷ ps) rise) low))
  | inr f ↦ (let whole : RiseTo from (p ∷ with_block ps q) end = (rw f at r) in
      let rest = with_block-full (end_of p) end ps q whole.1 l in grind (arith, rest))
]

pub full-emptied : (ps : List Placed) (a : ℕ) → full_blocks (map (emptied a) ps) ≡ without_block (full_blocks ps) a
full-emptied [] a = refl
full-emptied (p ∷ ps) a = grind (arith, nat_tests, full-emptied ps a)

-- the same of memories

pub seen-with_arena : (m : Memory) → IsInOrder (with_arena m) → seen (with_arena m) ≡ with_arena (seen m)
seen-with_arena m o =
    let l = o.arena_some in let e = length-zeros_at m.next_arena m.arena_words in
    ap (λ (ps : List Placed). record (with_arena m) { blocks = ps })
    (sym (with_block-full 1 m.next_large m.blocks (zeros_at m.next_arena m.arena_words) o.rises (omega arith)))

pub seen-with_large : (m : Memory) (n : ℕ) → IsInOrder (with_large m n) → 0 < n
    → seen (with_large m n) ≡ with_large (seen m) n
seen-with_large m n o l =
    let e = length-zeros_at m.next_large n in
    ap (λ (ps : List Placed). record (with_large m n) { blocks = ps })
    (sym (with_block-full 1 (m.next_large + n) m.blocks (zeros_at m.next_large n) o.rises (omega arith)))

pub seen-with_emptied : (m : Memory) (a : ℕ) → seen (with_emptied m a) ≡ without_large (seen m) a
seen-with_emptied m a = ap (λ (ps : List Placed). record m { blocks = ps }) (full-emptied m.blocks a)

pub ordered-seen : (m : Memory) → IsInOrder m → IsInOrder (seen m)
ordered-seen m o = record {
  rises = rise-full 1 m.next_large m.blocks o.rises;
  free = λ b l h. has-full m.blocks b ∙ o.free b l h;
  arenas_end = o.arenas_end;
  arena_some = o.arena_some;
  arena_most = o.arena_most;
  large_above = o.large_above;
  large_small = o.large_small;
}
